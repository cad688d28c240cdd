-- Each kind of node is in range where its parts are.
use Rattle.std.proofs.Common.{ℕ, ◌+◌, ◌<◌, List, [], ◌∷◌, length, All, None, Some, map, rules}
use Rattle.std.specs.List.{AllByRecursion}
use Rattle.std.proofs.lemmas.List.Elements.{All-from_recursion}
use Rattle.ocl_values.specs.declared.value.Kind.{Kind}
use Rattle.class_model.specs.declared.object_model.ObjectModel.{ObjectModel}
use Rattle.ocl_collections.specs.declared.op.CollOp.{CollOp}
use Rattle.ocl_core.specs.declared.expression.Expr.{Expr, out-Expr, the_lemmas}
use Rattle.ocl_core.specs.declared.expression.Expr.TheOpen.{Expr-F}
use Rattle.ocl_core.specs.declared.expression.Expr.TheVariants as E
use Rattle.ocl_core.specs.declared.expression.Part.{out-Part}
use Rattle.ocl_core.specs.declared.operators.BinaryOp.{BinaryOp}
use Rattle.ocl_core.specs.declared.operators.IterOp.{IterOp}
use Rattle.ocl_core.specs.declared.operators.UnaryOp.{UnaryOp}
use Rattle.ocl_core.specs.declared.operators.When.{When}
use Rattle.ocl_core.specs.Trees.{IsExprOf, IsSound, PartHolds}
use Rattle.ocl_rules.specs.declared.typed.TypedPart.{TypedPart}
use Rattle.ocl_rules.specs.declared.typed.TypedPart.TheVariants.{One, Range}
use Rattle.ocl_rules.specs.Forms.{part_of}
use Rattle.ocl_scope.specs.Ranges.{IsExprAmong, StandsAmong}
use Rattle.ocl_scope.proofs.Layers.{among}

module _ (m : ObjectModel) (n : ℕ) where
  pub unary_among : (op : UnaryOp) (e : Expr) → IsExprAmong m n e → IsExprAmong m n (E.Unary op e)
  unary_among op e k = among m n (E.Unary op e) (Expr-F.Unary op e) (search (rules, the_lemmas)) tt k.numbers k.literals k.entries

  pub binary_among : (op : BinaryOp) (a b : Expr) → IsExprAmong m n a → IsExprAmong m n b → IsExprAmong m n (E.Binary op a b)
  binary_among op a b h k =
      among m n (E.Binary op a b) (Expr-F.Binary op a b) (search (rules, the_lemmas)) tt (h.numbers, k.numbers) (h.literals, k.literals) (h.entries, k.entries)

  pub choice_among : (c a b : Expr) → IsExprAmong m n c → IsExprAmong m n a → IsExprAmong m n b → IsExprAmong m n (E.If c a b)
  choice_among c a b h k l =
      among m n (E.If c a b) (Expr-F.If c a b) (search (rules, the_lemmas)) tt (h.numbers, k.numbers, l.numbers) (h.literals, k.literals, l.literals)
      (h.entries, k.entries, l.entries)

  pub bind_among : (value body : Expr) → IsExprAmong m n value → IsExprAmong m (n + 1) body → IsExprAmong m n (E.Let value body)
  bind_among value body h k =
      among m n (E.Let value body) (Expr-F.Let value body) (search (rules, the_lemmas)) tt (h.numbers, k.numbers) (h.literals, k.literals)
      (h.entries, k.entries)

  pub extent_among : (class : ℕ) (when : When) → class < length m.classes → IsExprAmong m n (E.Extent class when)
  extent_among class when h = among m n (E.Extent class when) (Expr-F.Extent class when) (search (rules, the_lemmas)) h tt tt tt

  pub to_set_among : (e : Expr) → IsExprAmong m n e → IsExprAmong m n (E.ToSet e)
  to_set_among e k = among m n (E.ToSet e) (Expr-F.ToSet e) (search (rules, the_lemmas)) tt k.numbers k.literals k.entries

  pub operation_among : (op : CollOp) (all : List Expr) → All (IsExprAmong m n) all → IsExprAmong m n (E.Coll op all)
  operation_among op all k =
      among m n (E.Coll op all) (Expr-F.Coll op all) (search (rules, the_lemmas)) tt
      (λ i d h. (k i d h).numbers) (λ i d h. (k i d h).literals) (λ i d h. (k i d h).entries)

  pub iterator_among : (op : IterOp) (source : Expr) (count : ℕ) (body : Expr) → IsExprAmong m n source → IsExprAmong m (n + count) body →
      IsExprAmong m n (E.Iter op source count None body)
  iterator_among op source count body h k =
      among m n (E.Iter op source count None body) (Expr-F.Iter op source count None body) (search (rules, the_lemmas)) tt
      (h.numbers, tt, k.numbers) (h.literals, tt, k.literals) (h.entries, k.entries)

  pub iterate_among : (op : IterOp) (source start body : Expr) → IsExprAmong m n source → IsExprAmong m n start → IsExprAmong m (n + 1 + 1) body →
      IsExprAmong m n (E.Iter op source 1 (Some start) body)
  iterate_among op source start body h s k =
      among m n (E.Iter op source 1 (Some start) body) (Expr-F.Iter op source 1 (Some start) body) (search (rules, the_lemmas)) tt
      (h.numbers, s.numbers, k.numbers) (h.literals, s.literals, k.literals) (h.entries, s.entries, k.entries)

  -- the parts of a collection literal
  abbrev pub PartAmong : TypedPart → Type 0
  PartAmong (One e) = IsExprAmong m n e.expr
  PartAmong (Range place first last) = IsExprAmong m n first.expr × IsExprAmong m n last.expr

  part_among : (Holds : Expr → Type 0) → ((e : Expr) → IsExprAmong m n e → Holds e) → (p : TypedPart) → PartAmong p → PartHolds Holds (out-Part (part_of p))
  unfolding Rattle.ocl_core.specs.declared.expression.Expr.TheViews.out-Part denote.Hole.Carrier.out
  part_among Holds f (One e) h = f e.expr h
  part_among Holds f (Range place first last) h = (f first.expr h.0, f last.expr h.1)

  parts_among : (Holds : Expr → Type 0) → ((e : Expr) → IsExprAmong m n e → Holds e) → (ps : List TypedPart) → AllByRecursion PartAmong ps →
      AllByRecursion (λ p. PartHolds Holds (out-Part p)) (map part_of ps)
  parts_among Holds f [] h = tt
  parts_among Holds f (p ∷ ps) h = (part_among Holds f p h.0, parts_among Holds f ps h.1)

  pub collection_among : (kind : Kind) (ps : List TypedPart) → AllByRecursion PartAmong ps → IsExprAmong m n (E.Make kind (map part_of ps))
  collection_among kind ps h =
      among m n (E.Make kind (map part_of ps)) (Expr-F.Make kind (map part_of ps)) (search (rules, the_lemmas)) tt
      (All-from_recursion (λ p. PartHolds (IsExprOf m) (out-Part p)) (map part_of ps) (parts_among (IsExprOf m) (λ e k. k.numbers) ps h))
      (All-from_recursion (λ p. PartHolds IsSound (out-Part p)) (map part_of ps) (parts_among IsSound (λ e k. k.literals) ps h))
      (All-from_recursion (λ p. PartHolds (StandsAmong n) (out-Part p)) (map part_of ps) (parts_among (StandsAmong n) (λ e k. k.entries) ps h))
