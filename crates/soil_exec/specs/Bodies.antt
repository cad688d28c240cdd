-- Bodies of statements that may be carried out over a model: the literals of their expressions are well made, and their numbers are the model's.
use Rattle.std.specs.Prelude.{ℕ, zero, suc, ◌<◌, ⊤, List, All, length}
use Rattle.std.specs.Option.{ForSome}
use Rattle.class_model.specs.declared.object_model.ObjectModel.{ObjectModel}
use Rattle.ocl_core.specs.declared.statement.Act.{Act, out-Act}
use Rattle.ocl_core.specs.declared.statement.Act.TheOpen.{Act-F}
use Rattle.ocl_core.specs.declared.statement.Stmt.{Stmt, out-Stmt}
use Rattle.ocl_core.specs.declared.statement.Target.{Target}
use Rattle.ocl_core.specs.declared.statement.Target.TheVariants.{Local, Shell, Attr}
use Rattle.ocl_core.specs.Trees.{IsSound}

abbrev pub TargetIsSound : Target → Type 0
TargetIsSound (Local n) = ⊤
TargetIsSound (Shell name t) = ⊤
TargetIsSound (Attr e a) = IsSound e

module _ (m : ObjectModel) where
  module _ (Holds : Stmt → Type 0) where
    abbrev pub ActHolds : Act-F Act Stmt → Type 0
    ActHolds (Act-F.New class name target) = (class < length m.classes) × ForSome name IsSound × ForSome target TargetIsSound
    ActHolds (Act-F.Create names class) = class < length m.classes
    ActHolds (Act-F.Destroy es) = All IsSound es
    ActHolds (Act-F.Insert assoc first second) = (assoc < length m.assocs) × IsSound first × IsSound second
    ActHolds (Act-F.Delete assoc first second) = (assoc < length m.assocs) × IsSound first × IsSound second
    ActHolds (Act-F.Assign target e) = TargetIsSound target × IsSound e
    ActHolds (Act-F.Call receiver op args target) = (op < length m.ops) × IsSound receiver × All IsSound args × ForSome target TargetIsSound
    ActHolds (Act-F.If test one other) = IsSound test × All Holds one × All Holds other
    ActHolds (Act-F.For e body) = IsSound e × All Holds body
    ActHolds (Act-F.While test body) = IsSound test × All Holds body
    ActHolds (Act-F.Declare n) = ⊤

  -- down to a depth
  abbrev pub HoldsTo : ℕ → Stmt → Type 0
  HoldsTo zero s = ⊤
  HoldsTo (suc n) s = ActHolds (HoldsTo n) (out-Act (out-Stmt s).act)

  pub record IsStatement (s : Stmt) : Type 0 where
    pub holds : (n : ℕ) → HoldsTo n s

  abbrev pub IsBody : List Stmt → Type 0
  IsBody body = All IsStatement body
