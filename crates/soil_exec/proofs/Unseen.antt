-- What statements do does not depend on the frames of the calls that are open: what they give, and all else that they leave, is the same.
use Rattle.std.proofs.Common.{◌≡◌, ℕ, List, [], refl, sym, ap, ◌∙◌}
use Rattle.ocl_values.specs.declared.value.Value.{Value}
use Rattle.ocl_core.specs.declared.program.ProgramParts.{ProgramParts}
use Rattle.ocl_core.specs.declared.statement.Stmt.{Stmt}
use Rattle.object_state.specs.State.{Diagram}
use Rattle.entry_states.specs.declared.frame.Frame.{Frame}
use Rattle.soil_changes.specs.Acts.{Outcome}
use Rattle.soil_changes.proofs.Unseen.{all_unseen, delete_unseen, destroyed_unseen, holder_unseen, insert_unseen, new_unseen, slot_unseen, stored_unseen, variable_unseen}
use Rattle.soil_exec.specs.declared.fault.ExecFault.{ExecFault}
use Rattle.soil_exec.specs.Exec.{exec, outermost}
use Rattle.soil_exec.specs.Machine.{Machine, begin, with_frames}
use Rattle.soil_exec.proofs.Uniform.{IsView, as_seen, outermost_uniform}

abbrev pub bare : Machine → Machine
bare m = with_frames [] m

abbrev pub bared : {A : Type 0} → Outcome Machine ExecFault A → Outcome Machine ExecFault A
bared o = (o.0, bare o.1)

-- where no frames are seen
pub frameless : IsView (λ fs. [])
frameless = record {
  twice = λ fs. refl;
  enters = λ k fs. refl;
  leaves = λ fs. refl;
  stored = stored_unseen;
  held = holder_unseen;
  slot = slot_unseen;
  variable = variable_unseen;
  created = all_unseen;
  one = new_unseen;
  inserted = insert_unseen;
  deleted = delete_unseen;
  destroyed = destroyed_unseen;
}

module _ (p : ProgramParts) (body : List Stmt) (shell : List (List ℕ)) (bound : List Value) (d : Diagram) where
  -- as with no frames
  as_bare : (fs : List Frame) → bared (exec p body shell bound d []) ≡ bared (exec p body shell bound d fs)
  as_bare fs = as_seen (λ fs. []) frameless (outermost p body) (outermost_uniform (λ fs. []) frameless p body) (begin d fs shell bound 0)

  pub exec_unseen : (fs gs : List Frame)
      → ((exec p body shell bound d fs).0 ≡ (exec p body shell bound d gs).0) × (bare (exec p body shell bound d fs).1 ≡ bare (exec p body shell bound d gs).1)
  exec_unseen fs gs =
      let same = sym (as_bare fs) ∙ as_bare gs in
      (ap (λ (o : Outcome Machine ExecFault (Unit {0})). o.0) same, ap (λ (o : Outcome Machine ExecFault (Unit {0})). o.1) same)
