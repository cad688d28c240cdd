-- An expression is in range where its node and its parts are.
use Rattle.std.proofs.Common.{◌≡◌, ℕ, zero, suc, ◌+◌, ◌<◌, List, length, get_or, All, Option, Some, None, sym, subst, rules}
use Rattle.std.specs.Prelude.{⊤}
use Rattle.ocl_values.specs.Shape.{IsWellMade}
use Rattle.ocl_values.specs.declared.value.Value.{Value}
use Rattle.class_model.specs.InRange.{IsTypeOf}
use Rattle.class_model.specs.Parts.{op_params}
use Rattle.class_model.specs.declared.numbers.End.{End}
use Rattle.class_model.specs.declared.object_model.ObjectModel.{ObjectModel}
use Rattle.class_model.specs.declared.types.OclType.{OclType}
use Rattle.ocl_core.specs.declared.expression.Expr.{Expr, out-Expr, the_lemmas}
use Rattle.ocl_core.specs.declared.expression.Expr.TheOpen.{Expr-F, Part-F}
use Rattle.ocl_core.specs.declared.expression.Expr.TheVariants as E
use Rattle.ocl_core.specs.declared.expression.Part.{out-Part}
use Rattle.ocl_core.specs.declared.operators.IterOp.TheVariants.{Collect}
use Rattle.ocl_core.specs.declared.operators.PlainOp.{PlainOp}
use Rattle.ocl_core.specs.declared.operators.TypeTest.{TypeTest}
use Rattle.ocl_core.specs.declared.operators.When.{When}
use Rattle.ocl_core.specs.Trees.{HasLiteralsTo, IsExprOf, IsLiteralOf, IsSound, Layer, LayerHolds, NodeIsOf, NodesHoldTo, PartHolds, PartLayer, StartHolds}
use Rattle.ocl_scope.specs.Ranges.{IsExprAmong, LayerStands, StandsAmong, StandsTo}

module _ (P Q : Expr → Type 0) (f : (e : Expr) → P e → Q e) where
  part_follows : (p : PartLayer) → PartHolds P p → PartHolds Q p
  part_follows (Part-F.One e) h = f e h
  part_follows (Part-F.Range a b) h = (f a h.0, f b h.1)

  start_follows : (o : Option Expr) → StartHolds P o → StartHolds Q o
  start_follows None h = tt
  start_follows (Some e) h = f e h

  -- what holds of each part, where something holds that it follows from
  pub layer_follows : (OfValue : Value → Type 0) (l : Layer) → LayerHolds OfValue P l → LayerHolds OfValue Q l
  layer_follows OfValue (Expr-F.Literal v) h = h
  layer_follows OfValue (Expr-F.Local n) h = tt
  layer_follows OfValue (Expr-F.Unary op a) h = f a h
  layer_follows OfValue (Expr-F.Binary op a b) h = (f a h.0, f b h.1)
  layer_follows OfValue (Expr-F.If c a b) h = (f c h.0, f a h.1, f b h.2)
  layer_follows OfValue (Expr-F.Let a b) h = (f a h.0, f b h.1)
  layer_follows OfValue (Expr-F.Make kind parts) h = λ k d i. part_follows (out-Part (get_or parts k d)) (h k d i)
  layer_follows OfValue (Expr-F.Plain op all) h = λ k d i. f (get_or all k d) (h k d i)
  layer_follows OfValue (Expr-F.Coll op all) h = λ k d i. f (get_or all k d) (h k d i)
  layer_follows OfValue (Expr-F.Iter op source count start body) h = (f source h.0, start_follows start h.1, f body h.2)
  layer_follows OfValue (Expr-F.Attr a number when) h = f a h
  layer_follows OfValue (Expr-F.Derived a number when) h = f a h
  layer_follows OfValue (Expr-F.Nav a assoc end when) h = f a h
  layer_follows OfValue (Expr-F.Extent class when) h = tt
  layer_follows OfValue (Expr-F.Query a op all) h = (f a h.0, λ k d i. f (get_or all k d) (h.1 k d i))
  layer_follows OfValue (Expr-F.Test test a t when) h = f a h
  layer_follows OfValue (Expr-F.IsNew a) h = f a h
  layer_follows OfValue (Expr-F.ToSet a) h = f a h

-- the same where the values that stand there are counted
stands_follows : (P Q : ℕ → Expr → Type 0) → ((n : ℕ) (e : Expr) → P n e → Q n e) → (n : ℕ) (l : Layer) → LayerStands P n l → LayerStands Q n l
stands_follows P Q f n (Expr-F.Local i) h = h
stands_follows P Q f n (Expr-F.Let a b) h = (f n a h.0, f (n + 1) b h.1)
stands_follows P Q f n (Expr-F.Iter op source count None body) h = (f n source h.0, f (n + count) body h.1)
stands_follows P Q f n (Expr-F.Iter op source count (Some start) body) h = (f n source h.0, f n start h.1, f (n + count + 1) body h.2)
stands_follows P Q f n l h = layer_follows (P n) (Q n) (f n) (λ v. ⊤) l h

numbers_to : (m : ObjectModel) (e : Expr) (l : Layer) → out-Expr e ≡ l → NodeIsOf m l → LayerHolds (λ v. ⊤) (IsExprOf m) l → (n : ℕ) →
    NodesHoldTo (NodeIsOf m) n e
numbers_to m e l is node parts zero = tt
numbers_to m e l is node parts (suc n) = (
  subst (NodeIsOf m) (sym is) node,
  subst (LayerHolds (λ v. ⊤) (NodesHoldTo (NodeIsOf m) n)) (sym is) (layer_follows (IsExprOf m) (NodesHoldTo (NodeIsOf m) n) (λ x h. h.nodes n) (λ v. ⊤) l parts),
)

literals_to : (e : Expr) (l : Layer) → out-Expr e ≡ l → LayerHolds IsWellMade IsSound l → (n : ℕ) → HasLiteralsTo n e
literals_to e l is parts zero = tt
literals_to e l is parts (suc n) =
    subst (LayerHolds IsWellMade (HasLiteralsTo n)) (sym is) (layer_follows IsSound (HasLiteralsTo n) (λ x h. h.literals n) IsWellMade l parts)

entries_to : (n : ℕ) (e : Expr) (l : Layer) → out-Expr e ≡ l → LayerStands StandsAmong n l → (depth : ℕ) → StandsTo depth n e
entries_to n e l is parts zero = tt
entries_to n e l is parts (suc depth) =
    subst (LayerStands (StandsTo depth) n) (sym is) (stands_follows StandsAmong (StandsTo depth) (λ i x h. h.entries depth) n l parts)

-- an expression is in range where its node is and its parts are
pub among : (m : ObjectModel) (n : ℕ) (e : Expr) (l : Layer) → out-Expr e ≡ l → NodeIsOf m l → LayerHolds (λ v. ⊤) (IsExprOf m) l →
    LayerHolds IsWellMade IsSound l → LayerStands StandsAmong n l → IsExprAmong m n e
among m n e l is node numbers literals entries = record {
  numbers = record { nodes = numbers_to m e l is node numbers };
  literals = record { literals = literals_to e l is literals };
  entries = record { entries = entries_to n e l is entries };
}

module _ (m : ObjectModel) (n : ℕ) where
  pub literal_among : (v : Value) → IsLiteralOf m v → IsWellMade v → IsExprAmong m n (E.Literal v)
  literal_among v h k = among m n (E.Literal v) (Expr-F.Literal v) (search (rules, the_lemmas)) h tt k tt

  pub local_among : (i : ℕ) → i < n → IsExprAmong m n (E.Local i)
  local_among i h = among m n (E.Local i) (Expr-F.Local i) (search (rules, the_lemmas)) tt tt tt h

  pub attr_among : (e : Expr) (a : ℕ) (when : When) → a < length m.attrs → IsExprAmong m n e → IsExprAmong m n (E.Attr e a when)
  attr_among e a when h k =
      among m n (E.Attr e a when) (Expr-F.Attr e a when) (search (rules, the_lemmas)) h k.numbers k.literals k.entries

  pub derived_among : (e : Expr) (a : ℕ) (when : When) → a < length m.derived → IsExprAmong m n e → IsExprAmong m n (E.Derived e a when)
  derived_among e a when h k =
      among m n (E.Derived e a when) (Expr-F.Derived e a when) (search (rules, the_lemmas)) h k.numbers k.literals k.entries

  pub role_among : (e : Expr) (a : ℕ) (end : End) (when : When) → a < length m.assocs → IsExprAmong m n e → IsExprAmong m n (E.Nav e a end when)
  role_among e a end when h k =
      among m n (E.Nav e a end when) (Expr-F.Nav e a end when) (search (rules, the_lemmas)) h k.numbers k.literals k.entries

  pub test_among : (test : TypeTest) (e : Expr) (t : OclType) (when : When) → IsTypeOf m t → IsExprAmong m n e → IsExprAmong m n (E.Test test e t when)
  test_among test e t when h k =
      among m n (E.Test test e t when) (Expr-F.Test test e t when) (search (rules, the_lemmas)) h k.numbers k.literals k.entries

  pub new_among : (e : Expr) → IsExprAmong m n e → IsExprAmong m n (E.IsNew e)
  new_among e k = among m n (E.IsNew e) (Expr-F.IsNew e) (search (rules, the_lemmas)) tt k.numbers k.literals k.entries

  pub plain_among : (op : PlainOp) (all : List Expr) → All (IsExprAmong m n) all → IsExprAmong m n (E.Plain op all)
  plain_among op all k =
      among m n (E.Plain op all) (Expr-F.Plain op all) (search (rules, the_lemmas)) tt
      (λ i d h. (k i d h).numbers) (λ i d h. (k i d h).literals) (λ i d h. (k i d h).entries)

  pub query_among : (e : Expr) (op : ℕ) (all : List Expr) → op < length m.ops → length all ≡ length (op_params m op) → IsExprAmong m n e →
      All (IsExprAmong m n) all → IsExprAmong m n (E.Query e op all)
  query_among e op all h l k ks =
      among m n (E.Query e op all) (Expr-F.Query e op all) (search (rules, the_lemmas)) (h, l)
      (k.numbers, λ i d h. (ks i d h).numbers) (k.literals, λ i d h. (ks i d h).literals) (k.entries, λ i d h. (ks i d h).entries)

  pub collect_among : (source body : Expr) → IsExprAmong m n source → IsExprAmong m (n + 1) body → IsExprAmong m n (E.Iter Collect source 1 None body)
  collect_among source body h k =
      among m n (E.Iter Collect source 1 None body) (Expr-F.Iter Collect source 1 None body) (search (rules, the_lemmas)) tt
      (h.numbers, tt, k.numbers) (h.literals, tt, k.literals) (h.entries, k.entries)
