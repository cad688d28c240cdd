-- What is asked of an expression in a model and an environment: each number in it is one of the model's, or stands in the environment.
use Rattle.std.specs.Prelude.{ℕ, zero, suc, ⊤, ◌+◌, ◌<◌, List, [], ◌∷◌, All, Some, None}
use Rattle.use_text.specs.declared.place.Place.{Place}
use Rattle.class_decls.specs.declared.decls.Name.{Name}
use Rattle.class_model.specs.declared.object_model.ObjectModel.{ObjectModel}
use Rattle.class_model.specs.InRange.{IsTypeOf}
use Rattle.ocl_core.specs.declared.expression.Expr.{Expr, out-Expr}
use Rattle.ocl_core.specs.declared.expression.Expr.TheOpen.{Expr-F}
use Rattle.ocl_core.specs.Trees.{IsExprOf, IsSound, Layer, LayerHolds}
use Rattle.ocl_rules.specs.declared.typed.Typed.{Typed}
use Rattle.ocl_scope.specs.declared.environment.Environment.{Environment}
use Rattle.ocl_scope.specs.declared.given.Given.{Given}
use Rattle.ocl_scope.specs.declared.given.Given.TheVariants.{Values, Types}
use Rattle.ocl_scope.specs.declared.given.TypeArgument.{TypeArgument}
use Rattle.ocl_scope.specs.declared.given.TypeArgument.TheVariants.{OfType, NoType}

module _ (Holds : ℕ → Expr → Type 0) where
  -- a node among so many values: an entry is one of them, and something holds of each part among those that stand there
  abbrev pub LayerStands : ℕ → Layer → Type 0
  LayerStands n (Expr-F.Local i) = i < n
  LayerStands n (Expr-F.Let a b) = Holds n a × Holds (n + 1) b
  LayerStands n (Expr-F.Iter op source count None body) = Holds n source × Holds (n + count) body
  LayerStands n (Expr-F.Iter op source count (Some start) body) = Holds n source × Holds n start × Holds (n + count + 1) body
  LayerStands n layer = LayerHolds (λ v. ⊤) (Holds n) layer

-- each entry that is read is one of the values that stand there, down to a depth
abbrev pub StandsTo : ℕ → ℕ → Expr → Type 0
StandsTo zero n e = ⊤
StandsTo (suc depth) n e = LayerStands (StandsTo depth) n (out-Expr e)

-- each entry that an expression reads is one of so many values, or of those that the expression itself adds
pub record StandsAmong (n : ℕ) (e : Expr) : Type 0 where
  pub entries : (depth : ℕ) → StandsTo depth n e

-- an expression of a model among so many values
pub record IsExprAmong (m : ObjectModel) (n : ℕ) (e : Expr) : Type 0 where
  pub numbers : IsExprOf m e
  pub literals : IsSound e
  pub entries : StandsAmong n e

-- a typed one
pub record IsTypedAmong (m : ObjectModel) (n : ℕ) (t : Typed) : Type 0 where
  pub expr : IsExprAmong m n t.expr
  pub of_type : IsTypeOf m t.of_type

-- each variable of an environment has a type of the model, and stands for one of its values
pub record IsEnvironmentOf (m : ObjectModel) (env : Environment) : Type 0 where
  pub types : All (λ v. IsTypeOf m v.of_type) env.variables
  pub numbers : All (λ v. v.number < env.size) env.variables

-- the arguments of a call among so many values
abbrev pub IsTypeArgumentOf : ObjectModel → TypeArgument → Type 0
IsTypeArgumentOf m (OfType t) = IsTypeOf m t
IsTypeArgumentOf m (NoType at) = ⊤

abbrev pub IsGivenAmong : ObjectModel → ℕ → Given → Type 0
IsGivenAmong m n (Values args is_plain) = All (IsTypedAmong m n) args
IsGivenAmong m n (Types args is_plain) = All (IsTypeArgumentOf m) args

-- the places at which a call may be refused: that of its name, and those of the arguments that are no types
abbrev pub places_of_arguments : List TypeArgument → List Place
places_of_arguments [] = []
places_of_arguments (OfType t ∷ more) = places_of_arguments more
places_of_arguments (NoType at ∷ more) = at ∷ places_of_arguments more

abbrev pub places_of : Name → Given → List Place
places_of name (Values args is_plain) = name.place ∷ []
places_of name (Types args is_plain) = name.place ∷ places_of_arguments args
