-- Statements that may be carried out over a model: each number in them is the model's, and each expression may be evaluated over the present state.
use Rattle.std.specs.Prelude.{ℕ, zero, suc, ◌<◌, ⊤, List, All, length, Option, Some, None}
use Rattle.std.specs.Option.{ForSome}
use Rattle.class_model.specs.InRange.{IsTypeOf}
use Rattle.class_model.specs.declared.object_model.ObjectModel.{ObjectModel}
use Rattle.ocl_core.specs.declared.program.OpBody.{OpBody}
use Rattle.ocl_core.specs.declared.program.OpBody.TheVariants as body
use Rattle.ocl_core.specs.declared.statement.Act.{Act, out-Act}
use Rattle.ocl_core.specs.declared.statement.Act.TheOpen.{Act-F}
use Rattle.ocl_core.specs.declared.statement.Stmt.{Stmt, out-Stmt}
use Rattle.ocl_core.specs.declared.statement.Target.{Target}
use Rattle.ocl_core.specs.declared.statement.Target.TheVariants.{Attr, Local, Shell}
use Rattle.ocl_program.specs.Expressions.{IsCheckedNow}

-- the statements of an operation's body
abbrev pub soil_of : OpBody → Option (List Stmt)
soil_of body.None = None
soil_of (body.Query e) = None
soil_of (body.Soil statements) = Some statements

module _ (m : ObjectModel) where
  abbrev pub TargetIsOf : Target → Type 0
  TargetIsOf (Local n) = ⊤
  TargetIsOf (Shell name t) = IsTypeOf m t
  TargetIsOf (Attr e a) = IsCheckedNow m e × (a < length m.attrs)

  -- of an act, where something holds of the statements in it
  module _ (Holds : Stmt → Type 0) where
    abbrev pub ActIsOf : Act-F Act Stmt → Type 0
    ActIsOf (Act-F.New class name target) = (class < length m.classes) × ForSome name (IsCheckedNow m) × ForSome target TargetIsOf
    ActIsOf (Act-F.Create names class) = class < length m.classes
    ActIsOf (Act-F.Destroy es) = All (IsCheckedNow m) es
    ActIsOf (Act-F.Insert assoc first second) = (assoc < length m.assocs) × IsCheckedNow m first × IsCheckedNow m second
    ActIsOf (Act-F.Delete assoc first second) = (assoc < length m.assocs) × IsCheckedNow m first × IsCheckedNow m second
    ActIsOf (Act-F.Assign target e) = TargetIsOf target × IsCheckedNow m e
    ActIsOf (Act-F.Call receiver op args target) = (op < length m.ops) × IsCheckedNow m receiver × All (IsCheckedNow m) args × ForSome target TargetIsOf
    ActIsOf (Act-F.If test first second) = IsCheckedNow m test × All Holds first × All Holds second
    ActIsOf (Act-F.For e body) = IsCheckedNow m e × All Holds body
    ActIsOf (Act-F.While test body) = IsCheckedNow m test × All Holds body
    ActIsOf (Act-F.Declare n) = ⊤

  -- down to a depth
  abbrev pub IsStatementTo : ℕ → Stmt → Type 0
  IsStatementTo zero s = ⊤
  IsStatementTo (suc n) s = ActIsOf (IsStatementTo n) (out-Act (out-Stmt s).act)

  pub record IsStatementOf (s : Stmt) : Type 0 where
    pub holds : (n : ℕ) → IsStatementTo n s

  abbrev pub IsBodyOf : List Stmt → Type 0
  IsBodyOf body = All IsStatementOf body
