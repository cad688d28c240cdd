-- What is told at the end of an execution.
use Rattle.std.proofs.Common.{◌≡◌, ℕ, ◌+◌, List, Result, Ok, Err, refl, sym, ap, ◌∙◌, subst}
use Rattle.std.specs.Prelude.{IfOk, OnOk}
use Rattle.class_model.specs.declared.object_model.ObjectModel.{ObjectModel}
use Rattle.object_state.specs.declared.change.Change.{Change}
use Rattle.object_state.specs.declared.layout.Layout.{Layout}
use Rattle.object_state.specs.State.{Diagram, State}
use Rattle.object_state.specs.Valid.{IsValid}
use Rattle.entry_states.specs.declared.frame.Frame.{Frame}
use Rattle.entry_states.specs.Noting.{AreNoted}
use Rattle.entry_states.proofs.Noted.{both_noted}
use Rattle.soil_changes.specs.Acts.{Outcome}
use Rattle.soil_changes.specs.Adding.{Adds}
use Rattle.soil_changes.specs.Progress.{Lead, Progress, begun, diagram_of}
use Rattle.soil_changes.proofs.Back.{carried}
use Rattle.soil_exec.specs.declared.fault.ExecFault.{ExecFault}
use Rattle.soil_exec.specs.declared.fault.ExecFault.TheVariants.{Broken, Memory, Refused}
use Rattle.soil_exec.specs.Ending.{Ends, GoBack, GoesBack}
use Rattle.soil_exec.specs.Exec.{Refuses, Tells}
use Rattle.soil_exec.specs.Kept.{Gives}
use Rattle.soil_exec.specs.Machine.{Machine}
use Rattle.soil_exec.specs.Typed.{IsTyped}
use Rattle.soil_exec.proofs.Shifted.{all_later}

-- changes that were taken back
pub goes_back : (p : Progress) (x : ExecFault) (d : Diagram) (fs : List Frame) → ◌≡◌ {A = Diagram} d (record { layout = p.layout; state = p.start })
    → Lead p.layout p.start p.changes p.state → AreNoted p.layout p.state p.start p.frames fs → GoesBack p x d fs (Err x)
goes_back p Memory d fs state lead noted = tt
goes_back p (Refused r) d fs state lead noted = record { told = refl; state = state; lead = lead; noted = noted }
goes_back p (Broken r n v) d fs state lead noted = record { told = refl; state = state; lead = lead; noted = noted }

module _ (d : Diagram) (fs : List Frame) (valid : IsValid d.layout d.state) (outcome : Outcome Machine ExecFault (Unit {0})) (before : ℕ)
    (adds : Adds (begun d fs) outcome.1.progress) (after : Machine) (d' : Diagram) (fs' : List Frame) where
  -- what was carried out gives this
  abbrev Comes : Result (Unit {0}) ExecFault → Type 0
  Comes ended = Gives (all_later before outcome) ended after

  progress : {r : Result (Unit {0}) ExecFault} → all_later before outcome ≡ (r, after) → after.progress ≡ outcome.1.progress
  progress g = ap (λ (o : Outcome Machine ExecFault (Unit {0})). o.1.progress) (sym g)

  steps : {r : Result (Unit {0}) ExecFault} → all_later before outcome ≡ (r, after) → after.steps ≡ before + outcome.1.steps
  steps g = ap (λ (o : Outcome Machine ExecFault (Unit {0})). o.1.steps) (sym g)

  -- the first state is the one in which it began
  back : after.progress ≡ outcome.1.progress → ◌≡◌ {A = Diagram} (record { layout = after.progress.layout; state = after.progress.start }) d
  back e = (λ i. record { layout = (e i).layout; state = (e i).start }) ∙ (λ i. record { layout = adds.layout i; state = adds.start i })

  -- the changes that were made were noted
  noted : (p : Progress) → p ≡ outcome.1.progress → Lead p.layout p.start p.changes p.state → AreNoted d.layout d.state p.state fs p.frames
  noted p e lead =
      let leads : Lead outcome.1.progress.layout outcome.1.progress.start outcome.1.progress.changes outcome.1.progress.state =
      subst (λ (q : Progress). Lead q.layout q.start q.changes q.state) e lead in
      let first : Lead d.layout d.state adds.more outcome.1.progress.state =
      subst (λ (z : Layout × State × List Change). Lead z.0 z.1 z.2 outcome.1.progress.state) (λ i. (adds.layout i, adds.start i, adds.changes i)) leads in
      subst (λ (q : Progress). AreNoted d.layout d.state q.state fs q.frames) (sym e)
      (adds.noted valid (carried d.layout adds.more d.state outcome.1.progress.state first).0)

  -- a refusal is told, and all is as it was
  refused : (x y : ExecFault) → all_later before outcome ≡ (Err x, after) → GoBack after.progress x d' fs' y → Refuses d fs outcome before y d' fs' after.steps
  refused x y g e =
      let same = back (progress g) in
      let back_noted = subst (λ (z : Diagram). AreNoted z.layout after.progress.state z.state after.progress.frames fs') same e.noted in
      let stays : d' ≡ d = e.state ∙ same in
      record {
        refused = ap (λ o. o.0) g ∙ ap (λ (z : ExecFault). Err z) (sym e.told);
        state = stays;
        steps = steps g;
        noted = subst (λ (z : Diagram). AreNoted d.layout d.state z.state fs fs') (sym stays)
            (both_noted d.layout d.state after.progress.state d.state fs after.progress.frames fs' (noted after.progress (progress g) e.lead) back_noted);
      }

  pub told : (ended : Result (Unit {0}) ExecFault) (r : Result (List Change) ExecFault) → Comes ended → Ends after.progress ended d' fs' r
      → Tells d fs outcome before r d' fs' after.steps
  told (Ok u) r g e =
      subst (λ (r : Result (List Change) ExecFault). Tells d fs outcome before r d' fs' after.steps) (sym e.told)
      (record {
        done = ap (λ o. o.0) g;
        state = e.state ∙ ap diagram_of (progress g);
        changes = ap (λ (p : Progress). p.changes) (progress g);
        steps = steps g;
        noted = subst (λ (z : Diagram × List Frame). AreNoted d.layout d.state z.0.state fs z.1) (λ i. (sym e.state i, sym e.frames i))
            (noted after.progress (progress g) e.lead);
      })
  told (Err Memory) r g e = subst (λ (r : Result (List Change) ExecFault). Tells d fs outcome before r d' fs' after.steps) (sym e) tt
  told (Err (Refused x)) (Ok changes) g e = absurd e
  told (Err (Refused x)) (Err Memory) g e = tt
  told (Err (Refused x)) (Err (Refused y)) g e = refused (Refused x) (Refused y) g e
  told (Err (Refused x)) (Err (Broken y n v)) g e = refused (Refused x) (Broken y n v) g e
  told (Err (Broken x k w)) (Ok changes) g e = absurd e
  told (Err (Broken x k w)) (Err Memory) g e = tt
  told (Err (Broken x k w)) (Err (Refused y)) g e = refused (Broken x k w) (Refused y) g e
  told (Err (Broken x k w)) (Err (Broken y n v)) g e = refused (Broken x k w) (Broken y n v) g e

  pub led : (ended : Result (Unit {0}) ExecFault) (r : Result (List Change) ExecFault) → Comes ended → Ends after.progress ended d' fs' r
      → IfOk r (λ changes. Lead d.layout d.state changes d'.state)
  led (Ok u) r g e =
      subst (λ (r : Result (List Change) ExecFault). IfOk r (λ changes. Lead d.layout d.state changes d'.state)) (sym e.told)
      (subst (λ (z : Diagram × Diagram). Lead z.0.layout z.0.state after.progress.changes z.1.state) (λ i. (back (progress g) i, sym e.state i)) e.lead)
  led (Err Memory) r g e = subst (λ (r : Result (List Change) ExecFault). IfOk r (λ changes. Lead d.layout d.state changes d'.state)) (sym e) tt
  led (Err (Refused x)) (Ok changes) g e = absurd e
  led (Err (Refused x)) (Err f) g e = tt
  led (Err (Broken x k w)) (Ok changes) g e = absurd e
  led (Err (Broken x k w)) (Err f) g e = tt

  -- the layout stays
  pub laid_out : (r : Result (List Change) ExecFault) (n : ℕ) → Tells d fs outcome before r d' fs' n → OnOk r (d'.layout ≡ d.layout)
  laid_out (Ok changes) n t = ap (λ (z : Diagram). z.layout) t.state ∙ adds.layout
  laid_out (Err Memory) n t = tt
  laid_out (Err (Refused x)) n t = tt
  laid_out (Err (Broken x k w)) n t = tt

  -- the variables keep types of a model where those of the execution do
  pub typed : (m : ObjectModel) (r : Result (List Change) ExecFault) (n : ℕ) → Tells d fs outcome before r d' fs' n
      → (IsTyped m d.state → IsTyped m outcome.1.progress.state) → OnOk r (IsTyped m d.state → IsTyped m d'.state)
  typed m (Ok changes) n t keeps = λ h. subst (λ (z : Diagram). IsTyped m z.state) (sym t.state) (keeps h)
  typed m (Err Memory) n t keeps = tt
  typed m (Err (Refused x)) n t keeps = tt
  typed m (Err (Broken x k w)) n t keeps = tt
