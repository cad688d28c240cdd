-- What statements do does not depend on how many units were spent before: the units that they spend come on top.
use Rattle.std.proofs.Common.{◌≡◌, ℕ, ◌+◌, List, refl, ap, ◌∙◌, arith}
use Rattle.ocl_values.specs.declared.value.Value.{Value}
use Rattle.ocl_core.specs.declared.program.ProgramParts.{ProgramParts}
use Rattle.ocl_core.specs.declared.statement.Stmt.{Stmt}
use Rattle.object_state.specs.State.{Diagram}
use Rattle.entry_states.specs.declared.frame.Frame.{Frame}
use Rattle.soil_changes.specs.Acts.{Outcome}
use Rattle.soil_exec.specs.declared.fault.ExecFault.{ExecFault}
use Rattle.soil_exec.specs.Exec.{exec, outermost}
use Rattle.soil_exec.specs.Machine.{Machine, begin}
use Rattle.soil_exec.proofs.Uniform.{IsView, later, outermost_uniform}

abbrev pub all_later : {A : Type 0} → ℕ → Outcome Machine ExecFault A → Outcome Machine ExecFault A
all_later k o = (o.0, later k o.1)

-- where all frames are seen
pub whole : IsView (λ fs. fs)
whole = record {
  twice = λ fs. refl;
  enters = λ k fs. refl;
  leaves = λ fs. refl;
  stored = λ v p. refl;
  held = λ v a p. refl;
  slot = λ target a v p. refl;
  variable = λ name t v p. refl;
  created = λ class names p. refl;
  one = λ class word given p. refl;
  inserted = λ a v w p. refl;
  deleted = λ a v w p. refl;
  destroyed = λ vs p. refl;
}

pub none_before : (k : ℕ) → k ≡ k + 0
none_before k = omega arith

-- the whole list of statements
pub exec_after : (p : ProgramParts) (body : List Stmt) (shell : List (List ℕ)) (bound : List Value) (d : Diagram) (fs : List Frame) (k : ℕ)
    → outermost p body (begin d fs shell bound k) ≡ all_later k (exec p body shell bound d fs)
exec_after p body shell bound d fs k =
    ap (λ n. outermost p body (begin d fs shell bound n)) (none_before k) ∙ outermost_uniform (λ fs. fs) whole p body k (begin d fs shell bound 0)
