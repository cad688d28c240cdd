-- An act, by its layer.
use Rattle.std.proofs.Common.{◌≡◌, List, Result, sym, ap, subst, ◌∙◌}
use Rattle.use_text.specs.declared.place.Place.{Place}
use Rattle.ocl_core.specs.declared.program.ProgramParts.{ProgramParts}
use Rattle.ocl_core.specs.declared.statement.Act.{Act, out-Act}
use Rattle.ocl_core.specs.declared.statement.Stmt.{Stmt}
use Rattle.soil_exec.specs.declared.fault.ExecFault.{ExecFault}
use Rattle.soil_exec.specs.Kept.{Gives}
use Rattle.soil_exec.specs.Machine.{Execution, Machine}
use Rattle.soil_exec.specs.Statements.{Layer, act}

-- what it gives is what its layer gives
pub gives_as : (p : ProgramParts) (inside called : Place → List Stmt → Execution (Unit {0})) (at : Place) (a v : Act) (l : Layer) (m m' : Machine)
    (r : Result (Unit {0}) ExecFault) → a ≡ v → out-Act v ≡ l → Gives (act p inside called at l m) r m' → Gives (act p inside called at (out-Act a) m) r m'
gives_as p inside called at a v l m m' r is out h = subst (λ (z : Layer). Gives (act p inside called at z m) r m') (sym (ap out-Act is ∙ out)) h
