-- What the functions of the walk over statements need of what carries blocks out.
use Rattle.std.specs.Prelude.{◌≡◌, ℕ, List, Result, Some}
use denote.Ref.{Bor, MutBor}
use Rattle.use_text.specs.declared.place.Place.{Place}
use Rattle.ocl_core.specs.declared.statement.Stmt.{Stmt}
use Rattle.soil_exec.specs.declared.fault.ExecFault.{ExecFault}
use Rattle.soil_exec.specs.declared.machine.Machine.{Machine as Kept}
use Rattle.soil_exec.specs.declared.setting.Setting.{Setting}
use Rattle.soil_exec.specs.Bodies.{IsBody}
use Rattle.soil_exec.specs.Kept.{Comes, HasRoom, IsCurrent, IsOfModel, stand}
use Rattle.soil_exec.specs.Machine.{Execution}
use Rattle.soil_exec.specs.Statements.{within}

-- a block in a setting, and the body of an operation that is called there
abbrev pub inside_in : {V : Type 0} → Setting V → Place → List Stmt → Execution (Unit {0})
inside_in s = within s.program.now s.levels s.told

abbrev pub called_in : {V : Type 0} → Setting V → Place → List Stmt → Execution (Unit {0})
called_in s at = within s.program.now s.levels (Some at) at

-- a function that carries blocks out where so many levels may still be entered
pub record Executes {V S : Type 0} (count : S → ℕ) (levels : ℕ)
    (may : Bor (Setting V) → Place → Bor (List Stmt) → MutBor Kept → MutBor S → Type 0)
    (does : Bor (Setting V) → Place → Bor (List Stmt) → MutBor Kept → MutBor S → Result (Unit {0}) ExecFault → MutBor Kept → MutBor S → Type 0) : Type 0 where
  pub callable : (s : Bor (Setting V)) (at : Place) (body : Bor (List Stmt)) (m : MutBor Kept) (steps : MutBor S) →
      s.now.levels ≡ levels → IsBody s.now.program.now.model body.now → IsOfModel s.now.program.now.model m.now → HasRoom levels m.now
      → IsCurrent m.now → may s at body m steps
  pub gives : (s : Bor (Setting V)) (at : Place) (body : Bor (List Stmt)) (m m' : MutBor Kept) (steps steps' : MutBor S) (r : Result (Unit {0}) ExecFault) →
      s.now.levels ≡ levels → does s at body m steps r m' steps' →
      Comes (inside_in s.now at body.now (stand m.now (count steps.now))) m.now m'.now (count steps'.now) r
