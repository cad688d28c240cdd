-- Expressions that may be evaluated over a model.
use Rattle.std.specs.Prelude.{Bool, true, false}
use Rattle.class_model.specs.declared.object_model.ObjectModel.{ObjectModel}
use Rattle.ocl_core.specs.declared.expression.Expr.{Expr}
use Rattle.ocl_core.specs.Trees.{IsExprOf, IsSound, ReadsNow}

-- an expression that may be evaluated, over a model
pub record IsChecked (m : ObjectModel) (e : Expr) : Type 0 where
  pub sound : IsSound e
  pub of_model : IsExprOf m e

-- one that reads the present state alone
pub record IsCheckedNow (m : ObjectModel) (e : Expr) : Type 0 where
  pub checked : IsChecked m e
  pub now : ReadsNow e

-- a postcondition alone may read the state at entry
abbrev pub MayRead : Bool → ObjectModel → Expr → Type 0
MayRead true m e = IsChecked m e
MayRead false m e = IsCheckedNow m e
