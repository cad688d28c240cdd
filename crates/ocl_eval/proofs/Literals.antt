-- The literals of an expression are well made where those of its parts are.
use Rattle.std.proofs.Common.{◌≡◌, ℕ, suc, List, All, Option, Some, None, subst, sym}
use Rattle.std.specs.Prelude.{MatchOption, ⊤}
use Rattle.ocl_values.specs.Shape.{IsWellMade}
use Rattle.ocl_core.specs.declared.expression.Expr.{Expr, out-Expr}
use Rattle.ocl_core.specs.declared.expression.Expr.TheOpen.{Expr-F, Part-F}
use Rattle.ocl_core.specs.declared.expression.Part.{Part, out-Part}
use Rattle.ocl_core.specs.Trees.{HasLiteralsTo, IsSound, IsSoundPart, Layer, LayerHolds, PartHolds, PartLayer, StartHolds}

part_all : (l : PartLayer) → ((n : ℕ) → PartHolds (HasLiteralsTo n) l) → PartHolds IsSound l
part_all (Part-F.One e) h = record { literals = h }
part_all (Part-F.Range a b) h = (record { literals = λ n. (h n).0 }, record { literals = λ n. (h n).1 })

layer_all : (l : Layer) → ((n : ℕ) → LayerHolds IsWellMade (HasLiteralsTo n) l) → LayerHolds IsWellMade IsSound l
layer_all (Expr-F.Literal v) h = h 0
layer_all (Expr-F.Local n) h = tt
layer_all (Expr-F.Unary op a) h = record { literals = h }
layer_all (Expr-F.Binary op a b) h = (record { literals = λ n. (h n).0 }, record { literals = λ n. (h n).1 })
layer_all (Expr-F.If c a b) h = (record { literals = λ n. (h n).0 }, record { literals = λ n. (h n).1 }, record { literals = λ n. (h n).2 })
layer_all (Expr-F.Let a b) h = (record { literals = λ n. (h n).0 }, record { literals = λ n. (h n).1 })
layer_all (Expr-F.Make kind parts) h = λ k d below. part_all _ (λ n. h n k d below)
layer_all (Expr-F.Plain op all) h = λ k d below. record { literals = λ n. h n k d below }
layer_all (Expr-F.Coll op all) h = λ k d below. record { literals = λ n. h n k d below }
layer_all (Expr-F.Iter op source count None body) h = (record { literals = λ n. (h n).0 }, tt, record { literals = λ n. (h n).2 })
layer_all (Expr-F.Iter op source count (Some e) body) h = (
  record { literals = λ n. (h n).0 },
  record { literals = λ n. (h n).1 },
  record {
    literals = λ n.
        (h n).2;
  },
)
layer_all (Expr-F.Attr a number when) h = record { literals = h }
layer_all (Expr-F.Derived a number when) h = record { literals = h }
layer_all (Expr-F.Nav a assoc end when) h = record { literals = h }
layer_all (Expr-F.Extent class when) h = tt
layer_all (Expr-F.Query a op all) h = (record { literals = λ n. (h n).0 }, λ k d below. record { literals = λ n. (h n).1 k d below })
layer_all (Expr-F.Test test a t when) h = record { literals = h }
layer_all (Expr-F.IsNew a) h = record { literals = h }
layer_all (Expr-F.ToSet a) h = record { literals = h }

-- by the layer that a node has
pub sound_as : (e v : Expr) (l : Layer) → IsSound e → e ≡ v → out-Expr v ≡ l → LayerHolds IsWellMade IsSound l
sound_as e v l h is out = subst (LayerHolds IsWellMade IsSound) out (layer_all (out-Expr v) (λ n. subst (HasLiteralsTo (suc n)) is (h.literals (suc n))))

pub parts_sound : (xs ys : List Part) → ys ≡ xs → All (λ p. PartHolds IsSound (out-Part p)) xs → All IsSoundPart ys
parts_sound xs ys e h = subst (All IsSoundPart) (sym e) (λ k d below. record { holds = h k d below })

pub start_sound : (start : Option Expr) → StartHolds IsSound start → MatchOption start ⊤ IsSound
start_sound None h = tt
start_sound (Some e) h = h
