-- One level of a tree, and what may be asked of the nodes of an expression.
use Rattle.std.specs.Prelude.{◌≡◌, ℕ, zero, suc, ◌<◌, ⊤, length, All, Option, Some, None}
use Rattle.ocl_values.specs.Shape.{IsWellMade}
use Rattle.ocl_values.specs.declared.value.Value.{Value}
use Rattle.ocl_values.specs.declared.value.Value.TheVariants as V
use Rattle.class_model.specs.InRange.{IsTypeOf}
use Rattle.class_model.specs.Parts.{literal_count, op_params}
use Rattle.class_model.specs.declared.object_model.ObjectModel.{ObjectModel}
use Rattle.ocl_core.specs.declared.expression.Expr.{Expr, out-Expr}
use Rattle.ocl_core.specs.declared.expression.Expr.TheOpen.{Expr-F, Part-F}
use Rattle.ocl_core.specs.declared.expression.Part.{Part, out-Part}
use Rattle.ocl_core.specs.declared.operators.When.{When}
use Rattle.ocl_core.specs.declared.operators.When.TheVariants.{Now, Pre}

abbrev pub Layer : Type 0
Layer = Expr-F Expr Part

abbrev pub PartLayer : Type 0
PartLayer = Part-F Expr Part

module _ (Holds : Expr → Type 0) where
  abbrev pub PartHolds : PartLayer → Type 0
  PartHolds (Part-F.One e) = Holds e
  PartHolds (Part-F.Range a b) = Holds a × Holds b

  abbrev pub StartHolds : Option Expr → Type 0
  StartHolds None = ⊤
  StartHolds (Some e) = Holds e

module _ (OfValue : Value → Type 0) (Holds : Expr → Type 0) where
  -- something holds of the literal of a node, and something of each part
  abbrev pub LayerHolds : Layer → Type 0
  LayerHolds (Expr-F.Literal v) = OfValue v
  LayerHolds (Expr-F.Local n) = ⊤
  LayerHolds (Expr-F.Unary op a) = Holds a
  LayerHolds (Expr-F.Binary op a b) = Holds a × Holds b
  LayerHolds (Expr-F.If c a b) = Holds c × Holds a × Holds b
  LayerHolds (Expr-F.Let a b) = Holds a × Holds b
  LayerHolds (Expr-F.Make kind parts) = All (λ p. PartHolds Holds (out-Part p)) parts
  LayerHolds (Expr-F.Plain op all) = All Holds all
  LayerHolds (Expr-F.Coll op all) = All Holds all
  LayerHolds (Expr-F.Iter op source count start body) = Holds source × StartHolds Holds start × Holds body
  LayerHolds (Expr-F.Attr a number when) = Holds a
  LayerHolds (Expr-F.Derived a number when) = Holds a
  LayerHolds (Expr-F.Nav a assoc end when) = Holds a
  LayerHolds (Expr-F.Extent class when) = ⊤
  LayerHolds (Expr-F.Query a op all) = Holds a × All Holds all
  LayerHolds (Expr-F.Test test a t when) = Holds a
  LayerHolds (Expr-F.IsNew a) = Holds a
  LayerHolds (Expr-F.ToSet a) = Holds a

-- the literals of an expression are well made, down to a depth
abbrev pub HasLiteralsTo : ℕ → Expr → Type 0
HasLiteralsTo zero e = ⊤
HasLiteralsTo (suc n) e = LayerHolds IsWellMade (HasLiteralsTo n) (out-Expr e)

-- the literals of an expression are well made
pub record IsSound (e : Expr) : Type 0 where
  pub literals : (n : ℕ) → HasLiteralsTo n e

pub record IsSoundPart (p : Part) : Type 0 where
  pub holds : PartHolds IsSound (out-Part p)

-- something holds of each node, down to a depth
abbrev pub NodesHoldTo : (Layer → Type 0) → ℕ → Expr → Type 0
NodesHoldTo OfNode zero e = ⊤
NodesHoldTo OfNode (suc n) e = OfNode (out-Expr e) × LayerHolds (λ v. ⊤) (NodesHoldTo OfNode n) (out-Expr e)

-- the state that is read is the present one
abbrev pub IsOfNow : When → Type 0
IsOfNow Now = ⊤
IsOfNow Pre = ⊥

abbrev pub NodeReadsNow : Layer → Type 0
NodeReadsNow (Expr-F.Attr a number when) = IsOfNow when
NodeReadsNow (Expr-F.Derived a number when) = IsOfNow when
NodeReadsNow (Expr-F.Nav a assoc end when) = IsOfNow when
NodeReadsNow (Expr-F.Extent class when) = IsOfNow when
NodeReadsNow (Expr-F.Test test a t when) = IsOfNow when
NodeReadsNow (Expr-F.IsNew a) = ⊥
NodeReadsNow _ = ⊤

-- an expression reads the present state alone: `@pre` and `oclIsNew` stand nowhere in it
pub record ReadsNow (e : Expr) : Type 0 where
  pub nodes : (n : ℕ) → NodesHoldTo NodeReadsNow n e

-- a literal of a model: no object, no collection, and of an enumeration only what there is
abbrev pub IsLiteralOf : ObjectModel → Value → Type 0
IsLiteralOf m (V.Enum e l) = (e < length m.enums) × (l < literal_count m e)
IsLiteralOf m (V.Obj o) = ⊥
IsLiteralOf m (V.Coll' kind shape row) = ⊥
IsLiteralOf m _ = ⊤

abbrev pub NodeIsOf : ObjectModel → Layer → Type 0
NodeIsOf m (Expr-F.Literal v) = IsLiteralOf m v
NodeIsOf m (Expr-F.Attr a number when) = number < length m.attrs
NodeIsOf m (Expr-F.Derived a number when) = number < length m.derived
NodeIsOf m (Expr-F.Nav a assoc end when) = assoc < length m.assocs
NodeIsOf m (Expr-F.Extent class when) = class < length m.classes
NodeIsOf m (Expr-F.Query a op all) = (op < length m.ops) × (length all ≡ length (op_params m op))
NodeIsOf m (Expr-F.Test test a t when) = IsTypeOf m t
NodeIsOf m _ = ⊤

-- each number in an expression is the model's, and each call has as many arguments as its operation has parameters
pub record IsExprOf (m : ObjectModel) (e : Expr) : Type 0 where
  pub nodes : (n : ℕ) → NodesHoldTo (NodeIsOf m) n e
