use Rattle.std.proofs.Common.{◌≡◌, ℕ, ◌-◌, ◌<◌, ◌^◌, List, [], ◌∷◌, ◌++◌, length, ap, sym, subst, ◌∙◌, arith}
use Rattle.object_state.specs.declared.change.Change.{Change}
use Rattle.object_state.specs.Changes.{apply}
use Rattle.object_state.specs.Faults.{Fits}
use Rattle.object_state.specs.State.{Diagram}
use Rattle.entry_states.specs.declared.frame.Frame.{Frame}
use Rattle.entry_states.specs.Leading.{CanBeTakenBack, taken_back}
use Rattle.soil_changes.specs.Progress.{Progress, with_change}
use Rattle.soil_changes.proofs.Back.{back_more, start_more}
use Rattle.soil_changes.proofs.transaction.Transaction.carry_out.Goals as goal

abbrev of : Diagram → List Frame → List Change → ℕ → Progress
of d fs cs n = record { layout = d.layout; start = taken_back d.layout cs d.state; state = d.state; frames = fs; changes = cs; left = n }

pub invariant_of-self-2 : goal.invariant_of-self-2
invariant_of-self-2 c =
    let store = c.self.inside.store in
    let change = c.args.change in
    let items : c.push.new.self.items ≡ c.self.inside.changes.items ++ change ∷ [] =
    c.in_ok-push.ensures.items ∙ (λ i. c.reserve.ensures.items i ++ change ∷ []) in
    let fits = subst (λ (p : Progress). Fits p.layout p.state change) (sym c.self.view_is) c.requires.fits in
    let applied = c.in_ok-carry_out.ensures.ok in
    record {
      back = subst (λ (z : Diagram × List Change). CanBeTakenBack z.0.layout z.1 z.0.state) (λ i. (sym applied i, sym items i))
          (back_more store.layout c.self.inside.changes.items store.state change c.state_is_valid.ensures fits c.self.invariant.back);
      left = omega (arith, c.self.invariant.left);
      few = subst (λ (d : Diagram). length d.layout.assocs < 2 ^ 32) (sym applied) c.self.invariant.few;
    }

pub returns : goal.returns
returns c =
    let store = c.self.inside.store in
    let change = c.args.change in
    let items : c.push.new.self.items ≡ c.self.inside.changes.items ++ change ∷ [] =
    c.in_ok-push.ensures.items ∙ (λ i. c.reserve.ensures.items i ++ change ∷ []) in
    let fits = subst (λ (p : Progress). Fits p.layout p.state change) (sym c.self.view_is) c.requires.fits in
    let applied = c.in_ok-carry_out.ensures.ok in
    let start = start_more store.layout c.self.inside.changes.items store.state change c.state_is_valid.ensures fits in
    let whole : of c.carry_out.new.self c.note.new.self c.push.new.self.items (c.self.inside.left - c.args.weight)
    ≡ with_change change (of store c.self.inside.frames c.self.inside.changes.items c.self.inside.left) =
    (λ i. of (applied i) (c.in_ok-note.ensures.noted i) (items i) (c.self.inside.left - c.requires.weight i))
    ∙ (λ i. record (with_change change (of store c.self.inside.frames c.self.inside.changes.items c.self.inside.left)) { start = start i }) in
    whole ∙ ap (with_change change) c.self.view_is
