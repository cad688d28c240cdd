-- What a command evaluates that enters or leaves a call: it changes nothing, and the units that were spent before do not matter to it.
use Rattle.std.proofs.Common.{◌≡◌, ℕ, ◌+◌, Bool, true, false, List, [], ◌∷◌, ◌++◌, Option, Some, None, Result, Ok, Err, refl, sym, ap, ◌∙◌}
use Rattle.std.specs.Prelude.{not}
use Rattle.use_text.specs.declared.place.Place.{Place}
use Rattle.ocl_values.specs.declared.value.Value.{Value}
use Rattle.ocl_core.specs.declared.expression.Expr.{Expr}
use Rattle.ocl_core.specs.declared.program.ProgramParts.{ProgramParts}
use Rattle.object_state.specs.State.{Diagram}
use Rattle.entry_states.specs.declared.frame.Call.{Call}
use Rattle.ocl_eval.specs.Evaluation.{eval}
use Rattle.ocl_eval.specs.Evaluations as evaluations
use Rattle.soil_changes.specs.Acts.{Outcome, ◌>>=◌, ◌>>◌, each, pure, refuse_if, then_act}
use Rattle.soil_changes.specs.Progress.{diagram_of, x_code}
use Rattle.soil_changes.specs.Storing.{may_be_stored, refuse_unless_stored}
use Rattle.soil_exec.specs.declared.fault.ExecFault.{ExecFault}
use Rattle.soil_exec.specs.declared.fault.ExecFault.TheVariants.{Broken, Memory, Refused}
use Rattle.soil_exec.specs.declared.machine.Machine.{Machine as Kept}
use Rattle.soil_exec.specs.Calls.{call_of, called_on, check_stored, chosen, entering, giving}
use Rattle.soil_exec.specs.Exec.{Finds}
use Rattle.soil_exec.specs.Kept.{Gives, stand}
use Rattle.soil_exec.specs.Machine.{Execution, Machine, begin, environment, or_breaks_x, placed}
use Rattle.soil_exec.specs.Values.{scene, value, valued, values, values_behind}
use Rattle.soil_exec.proofs.Shifted.{all_later, none_before, whole}
use Rattle.soil_exec.proofs.Uniform.{call_of_uniform, changing_uniform, later, plain, then_uniform, value_uniform, values_uniform}

-- an execution leaves the progress as it is
abbrev pub LeavesProgress : {A : Type 0} → Execution A → Type 0
LeavesProgress act = (m : Machine) → (act m).1.progress ≡ m.progress

then_leaves : {A B : Type 0} (act : Execution A) (next : A → Execution B) → LeavesProgress act → ((a : A) → LeavesProgress (next a)) → LeavesProgress (act >>= next)
then_leaves {A = A} act next f h m = by (act m) (f m)
  where
    by : (o : Outcome Machine ExecFault A) → o.1.progress ≡ m.progress → (then_act o next).1.progress ≡ m.progress
    by (Ok a, x) e = h a x ∙ e
    by (Err r, x) e = e

each_leaves : {A : Type 0} (f : A → Execution (Unit {0})) → ((a : A) → LeavesProgress (f a)) → (xs : List A) → LeavesProgress (each f xs)
each_leaves f h [] m = refl
each_leaves f h (x ∷ xs) m = then_leaves (f x) (λ u. each f xs) (h x) (λ u. each_leaves f h xs) m

or_leaves : {A : Type 0} (o : Option A) (n : ℕ) (at : Place) → LeavesProgress (or_breaks_x o n at)
or_leaves (Some a) n at m = refl
or_leaves None n at m = refl

stored_leaves : (at : Place) (v : Value) → LeavesProgress (check_stored at v)
stored_leaves at v m = by (not (may_be_stored m.progress.state v))
  where
    by : (b : Bool) → (placed at m (refuse_if b (x_code 12) m.progress)).1.progress ≡ m.progress
    by true = refl
    by false = refl

-- the units that were spent before come on top
abbrev pub IsLater : {A : Type 0} → Execution A → Type 0
IsLater act = (k : ℕ) (m : Machine) → act (later k m) ≡ all_later k (act m)

-- so what it gives is found, and the store stays
module _ {A : Type 0} (act : Execution A) (late : IsLater act) (leaves : LeavesProgress act) (d : Diagram) (shell : List (List ℕ)) (bound : List Value)
    (before : ℕ) where
  abbrev alone : Outcome Machine ExecFault A
  alone = act (begin d [] shell bound 0)

  found : (r : Result A ExecFault) (x : Machine) → act (begin d [] shell bound before) ≡ (r, x)
      → (alone.0 ≡ r) × (diagram_of x.progress ≡ d) × (x.steps ≡ before + alone.1.steps)
  found r x h =
      let e : all_later before alone ≡ (r, x) =
      sym (late before (begin d [] shell bound 0)) ∙ ap (λ n. act (begin d [] shell bound n)) (sym (none_before before)) ∙ h in (
        ap (λ (o : Outcome Machine ExecFault A). o.0) e,
        ap (λ (o : Outcome Machine ExecFault A). diagram_of o.1.progress) (sym e) ∙ ap diagram_of (leaves (begin d [] shell bound 0)),
        ap (λ (o : Outcome Machine ExecFault A). o.1.steps) (sym e),
      )

  pub finds : (r : Result A ExecFault) (x : Machine) → Gives (act (begin d [] shell bound before)) r x → Finds d alone before r (diagram_of x.progress) x.steps
  finds (Ok a) x h = found (Ok a) x h
  finds (Err Memory) x h = tt
  finds (Err (Refused r)) x h = found (Err (Refused r)) x h
  finds (Err (Broken r n v)) x h = found (Err (Broken r n v)) x h

module _ (p : ProgramParts) where
  value_leaves : (at : Place) (e : Expr) → LeavesProgress (value p at e)
  value_leaves at e m = by (eval (scene p m) (environment m) e)
    where
      by : (o : evaluations.Outcome Value) → (valued at m o).1.progress ≡ m.progress
      by (Some v, meter) = refl
      by (None, meter) = refl

  values_leave : (at : Place) (vs : List Value) (es : List Expr) → LeavesProgress (values_behind p at vs es)
  values_leave at vs [] m = refl
  values_leave at vs (e ∷ es) m =
      then_leaves (value p at e) (λ v. values_behind p at (vs ++ v ∷ []) es) (value_leaves at e) (λ v. values_leave at (vs ++ v ∷ []) es) m

  call_leaves : (at : Place) (op : ℕ) (v : Value) (vs : List Value) → LeavesProgress (call_of p at op v vs)
  call_leaves at op v vs =
      then_leaves (called_on p at op v) (λ c. each (check_stored at) vs >>= (λ _. pure (record { op = c.1; receiver = c.0; args = vs })))
      (λ m. or_leaves (chosen p.model m.progress.state op v) 5 at m) (λ c.
      then_leaves (each (check_stored at) vs) (λ _. pure (record { op = c.1; receiver = c.0; args = vs })) (each_leaves (check_stored at) (stored_leaves at) vs)
      (λ u m. refl))

  pub entering_leaves : (at : Place) (receiver : Expr) (op : ℕ) (args : List Expr) → LeavesProgress (entering p at receiver op args)
  entering_leaves at receiver op args =
      then_leaves (value p at receiver) (λ v. values p at args >>= call_of p at op v) (value_leaves at receiver)
      (λ v. then_leaves (values p at args) (call_of p at op v) (values_leave at [] args) (call_leaves at op v))

  pub giving_leaves : (at : Place) (e : Option Expr) → LeavesProgress (giving p at e)
  giving_leaves at None m = refl
  giving_leaves at (Some e) m =
      then_leaves (value p at e) (λ v. check_stored at v >> pure v) (value_leaves at e)
      (λ v. then_leaves (check_stored at v) (λ u. pure v) (stored_leaves at v) (λ u m. refl)) m

  pub entering_later : (at : Place) (receiver : Expr) (op : ℕ) (args : List Expr) → IsLater (entering p at receiver op args)
  entering_later at receiver op args =
      then_uniform (λ fs. fs) whole (value p at receiver) (λ v. values p at args >>= call_of p at op v) (value_uniform (λ fs. fs) whole p at receiver)
      (λ v. then_uniform (λ fs. fs) whole (values p at args) (call_of p at op v) (values_uniform (λ fs. fs) whole p at [] args)
      (call_of_uniform (λ fs. fs) whole p at op v))

  pub giving_later : (at : Place) (e : Option Expr) → IsLater (giving p at e)
  giving_later at None k m = refl
  giving_later at (Some e) k m =
      then_uniform (λ fs. fs) whole (value p at e) (λ v. check_stored at v >> pure v) (value_uniform (λ fs. fs) whole p at e)
      (λ v. then_uniform (λ fs. fs) whole (check_stored at v) (λ u. pure v) (changing_uniform (λ fs. fs) whole at (refuse_unless_stored v) (λ p. refl))
      (λ u. plain (λ fs. fs) whole (pure v) (λ k m. refl))) k m

  -- what a machine that is kept gives is found
  pub entering_finds : (at : Place) (receiver : Expr) (op : ℕ) (args : List Expr) (d : Diagram) (shell : List (List ℕ)) (bound : List Value) (before : ℕ)
      (r : Result Call ExecFault) (k : Kept) (n : ℕ) → Gives (entering p at receiver op args (begin d [] shell bound before)) r (stand k n)
      → Finds d (entering p at receiver op args (begin d [] shell bound 0)) before r (diagram_of k.transaction) n
  entering_finds at receiver op args d shell bound before r k n =
      finds (entering p at receiver op args) (entering_later at receiver op args) (entering_leaves at receiver op args) d shell bound before r (stand k n)

  pub giving_finds : (at : Place) (e : Option Expr) (d : Diagram) (shell : List (List ℕ)) (bound : List Value) (before : ℕ)
      (r : Result Value ExecFault) (k : Kept) (n : ℕ) → Gives (giving p at e (begin d [] shell bound before)) r (stand k n)
      → Finds d (giving p at e (begin d [] shell bound 0)) before r (diagram_of k.transaction) n
  giving_finds at e d shell bound before r k n = finds (giving p at e) (giving_later at e) (giving_leaves at e) d shell bound before r (stand k n)
