-- The order of values is by rank, and of two values that it does not tell apart, each is the other.
use Rattle.std.proofs.Common.{◌≡◌, List, [], ◌∷◌, map, ℕ, T, true, false, true≢false, Less, Equal, Greater, Ordering, ◌↔◌, refl, sym, ap, ap₂, ◌∙◌, subst}
use Rattle.std.proofs.Common.{is_eq}
use Rattle.std.specs.Cmp.{IsTotalOrder}
use Rattle.std.specs.Cmp.Lexicographic.{slice_cmp}
use Rattle.std.proofs.lemmas.Cmp.{tied_itself}
use Rattle.std.specs.FinMap.{IsAntisymmetric, nat_cmp-IsAntisymmetric, int_cmp-IsAntisymmetric, slice_cmp-IsAntisymmetric}
use Rattle.std.specs.Ordering.{ordering_then, nat_cmp, int_cmp, bool_cmp}
use Rattle.ocl_values.specs.declared.value.Kind.{Kind}
use Rattle.ocl_values.specs.declared.value.Kind.TheVariants as KV
use Rattle.ocl_values.specs.contracts.value.KindOrd.TheImpl as KO
use Rattle.ocl_values.specs.contracts.value.ValueOrd.TheImpl.{the_step}
use Rattle.ocl_values.specs.contracts.value.ValueOrd.TheImpl.Laws.{local, total-law}
use Rattle.ocl_values.specs.Logic.{is_invalid}
use Rattle.ocl_values.specs.Order.{value_cmp, kind_rank, by_rank}
use Rattle.ocl_values.specs.declared.value.Value.{Value, roll-Value, out-Value, roll-out-Value, out-roll-Value, items_shown-the_row-Value-0}
use Rattle.ocl_values.specs.declared.value.Value.TheOpen as O
use Rattle.ocl_values.specs.declared.value.Value.TheBlock as B
use Rattle.ocl_values.specs.declared.value.Value.TheFolds as F
use Rattle.ocl_values.specs.declared.value.Value.TheVariants as V
use Rattle.ocl_values.specs.declared.value.Value.TheVariants.{Null, Invalid, Bool, Int, Str, Enum, Obj, Coll'}
use denote.Hole.Compared as C

abbrev Rel : Type 0
Rel = C.Rel B.the_members B.the_family B.the_depth Ordering

less_equal : (X : Type 0) → Less ≡ Equal → X
less_equal X e = absurd (subst (λ r. T (is_eq r)) (sym e) tt)

greater_equal : (X : Type 0) → Greater ≡ Equal → X
greater_equal X e = absurd (subst (λ r. T (is_eq r)) (sym e) tt)

then_equal : (p q : Ordering) → ordering_then p q ≡ Equal → (p ≡ Equal) × (q ≡ Equal)
then_equal Less q e = less_equal _ e
then_equal Equal q e = (refl, e)
then_equal Greater q e = greater_equal _ e

-- the derived order of kinds is that of their ranks
kinds_by_rank : (k l : Kind) → KO.ghosts.cmp k l ≡ nat_cmp (kind_rank k) (kind_rank l)
kinds_by_rank KV.Set KV.Set = refl
kinds_by_rank KV.Set _ = refl
kinds_by_rank KV.OrderedSet KV.Set = refl
kinds_by_rank KV.OrderedSet _ = refl
kinds_by_rank KV.Bag KV.Set = refl
kinds_by_rank KV.Bag _ = refl
kinds_by_rank KV.Sequence KV.Set = refl
kinds_by_rank KV.Sequence _ = refl

ranks_same : (k l : Kind) → kind_rank k ≡ kind_rank l → k ≡ l
ranks_same KV.Set KV.Set e = refl
ranks_same KV.Set _ e = cc
ranks_same KV.OrderedSet KV.OrderedSet e = refl
ranks_same KV.OrderedSet _ e = cc
ranks_same KV.Bag KV.Bag e = refl
ranks_same KV.Bag _ e = cc
ranks_same KV.Sequence KV.Sequence e = refl
ranks_same KV.Sequence _ e = cc

-- where one layer of a value stands in the order
abbrev rank_of : {A : Type 0} → O.Value-F A → ℕ
rank_of O.Null = 0
rank_of O.Invalid = 1
rank_of (O.Bool b) = 2
rank_of (O.Int n) = 3
rank_of (O.Str bytes) = 4
rank_of (O.Enum e l) = 5
rank_of (O.Obj o) = 6
rank_of (O.Coll kind items) = 7

-- one layer of two values of one rank, by an order of the values in them
abbrev inside : (Value → Value → Ordering) → O.Value-F Value → O.Value-F Value → Ordering
inside r (O.Bool a) (O.Bool b) = bool_cmp a b
inside r (O.Int a) (O.Int b) = int_cmp a b
inside r (O.Str a) (O.Str b) = slice_cmp nat_cmp a b
inside r (O.Enum e l) (O.Enum f m) = ordering_then (nat_cmp e f) (nat_cmp l m)
inside r (O.Obj a) (O.Obj b) = nat_cmp a b
inside r (O.Coll k a) (O.Coll l b) = ordering_then (nat_cmp (kind_rank k) (kind_rank l)) (slice_cmp r a b)
inside r _ _ = Equal

abbrev layer : (Value → Value → Ordering) → O.Value-F Value → O.Value-F Value → Ordering
layer r x y = ordering_then (nat_cmp (rank_of x) (rank_of y)) (inside r x y)

step_is : (r : Rel) (u v : Value) → the_step r B.member-Value u v ≡ layer (r B.member-Value) (out-Value u) (out-Value v)
unfolding out-Value denote.Hole.Carrier.out
step_is r Null Null = refl
step_is r Null _ = refl
step_is r Invalid Null = refl
step_is r Invalid _ = refl
step_is r (Bool a) (Bool b) = refl
step_is r (Bool a) _ = refl
step_is r (Int a) (Int b) = refl
step_is r (Int a) _ = refl
step_is r (Str a) (Str b) = refl
step_is r (Str a) _ = refl
step_is r (Enum e l) (Enum f m) = refl
step_is r (Enum e l) _ = refl
step_is r (Obj a) (Obj b) = refl
step_is r (Obj a) _ = refl
step_is r (Coll' k s p) (Coll' l t q) =
    ap (λ o. ordering_then o (slice_cmp (r B.member-Value) (B.shown-the_row-Value-0 s p) (B.shown-the_row-Value-0 t q))) (kinds_by_rank k l)
step_is r (Coll' k s p) _ = refl

cmp_is : (u v : Value) → value_cmp u v ≡ layer value_cmp (out-Value u) (out-Value v)
cmp_is u v =
    C.compared_is B.the_members B.the_family B.the_depth Ordering Equal the_step local B.member-Value u v
    ∙ step_is (C.compared B.the_members B.the_family B.the_depth Ordering Equal the_step) u v

layer_is : (r : Value → Value → Ordering) (u v : Value) → layer r (out-Value u) (out-Value v) ≡ by_rank r u v
unfolding out-Value denote.Hole.Carrier.out
layer_is r Null Null = refl
layer_is r Null _ = refl
layer_is r Invalid Null = refl
layer_is r Invalid _ = refl
layer_is r (Bool a) (Bool b) = refl
layer_is r (Bool a) _ = refl
layer_is r (Int a) (Int b) = refl
layer_is r (Int a) _ = refl
layer_is r (Str a) (Str b) = refl
layer_is r (Str a) _ = refl
layer_is r (Enum e l) (Enum f m) = refl
layer_is r (Enum e l) _ = refl
layer_is r (Obj a) (Obj b) = refl
layer_is r (Obj a) _ = refl
layer_is r (Coll' k s p) (Coll' l t q) =
    ap₂ (λ xs ys. ordering_then (nat_cmp (kind_rank k) (kind_rank l)) (slice_cmp r xs ys)) (items_shown-the_row-Value-0 s p) (items_shown-the_row-Value-0 t q)
layer_is r (Coll' k s p) _ = refl

-- the derived order is the one by rank
pub cmp_by_rank : (u v : Value) → value_cmp u v ≡ by_rank value_cmp u v
cmp_by_rank u v = cmp_is u v ∙ layer_is value_cmp u v

bools_same : (a b : _) → bool_cmp a b ≡ Equal → a ≡ b
bools_same true true e = refl
bools_same true false e = greater_equal _ e
bools_same false true e = less_equal _ e
bools_same false false e = refl

lists_same : {A : Type 0} (f : A → Value) (R : Value → Value → Ordering) → ((a : A) (b : Value) → R (f a) b ≡ Equal → f a ≡ b) → (xs : List A) (ys : List Value)
    → slice_cmp R (map f xs) ys ≡ Equal → map f xs ≡ ys
lists_same f R good [] [] e = refl
lists_same f R good [] (y ∷ ys) e = less_equal _ e
lists_same f R good (x ∷ xs) [] e = greater_equal _ e
lists_same f R good (x ∷ xs) (y ∷ ys) e =
    let both = then_equal (R (f x) y) (slice_cmp R (map f xs) ys) e in
    ap₂ (λ v vs. v ∷ vs) (good x y both.0) (lists_same f R good xs ys both.1)

module _ {A : Type 0} (f : A → Value) (R : Value → Value → Ordering) (good : (a : A) (b : Value) → R (f a) b ≡ Equal → f a ≡ b) where
  layers_same : (x : O.Value-F A) (y : O.Value-F Value) → layer R (F.map-Value A Value f x) y ≡ Equal → F.map-Value A Value f x ≡ y
  layers_same O.Null O.Null e = refl
  layers_same O.Null _ e = cc
  layers_same O.Invalid O.Invalid e = refl
  layers_same O.Invalid _ e = cc
  layers_same (O.Bool a) (O.Bool b) e = ap O.Bool (bools_same a b e)
  layers_same (O.Bool a) _ e = cc
  layers_same (O.Int a) (O.Int b) e = ap O.Int (int_cmp-IsAntisymmetric a b e)
  layers_same (O.Int a) _ e = cc
  layers_same (O.Str a) (O.Str b) e = ap O.Str (slice_cmp-IsAntisymmetric nat_cmp-IsAntisymmetric a b e)
  layers_same (O.Str a) _ e = cc
  layers_same (O.Enum a l) (O.Enum b m) e =
      let both = then_equal (nat_cmp a b) (nat_cmp l m) e in
      ap₂ O.Enum (nat_cmp-IsAntisymmetric a b both.0) (nat_cmp-IsAntisymmetric l m both.1)
  layers_same (O.Enum a l) _ e = cc
  layers_same (O.Obj a) (O.Obj b) e = ap O.Obj (nat_cmp-IsAntisymmetric a b e)
  layers_same (O.Obj a) _ e = cc
  layers_same (O.Coll k a) (O.Coll l b) e =
      let both = then_equal (nat_cmp (kind_rank k) (kind_rank l)) (slice_cmp R (map f a) b) e in
      ap₂ O.Coll (ranks_same k l (nat_cmp-IsAntisymmetric (kind_rank k) (kind_rank l) both.0)) (lists_same f R good a b both.1)
  layers_same (O.Coll k a) _ e = cc

abbrev Same : Value → Type 0
Same a = (b : Value) → value_cmp a b ≡ Equal → a ≡ b

-- of two values that the order does not tell apart, each is the other
pub value_exact : IsAntisymmetric value_cmp
value_exact = F.ind-Value Same (λ x y is b e.
    let whole = sym (cmp_is (roll-Value x) b) ∙ e in
    let here : layer value_cmp (F.map-Value _ Value (λ v. v.0) y) (out-Value b) ≡ Equal =
    subst (λ l. layer value_cmp l (out-Value b) ≡ Equal) (out-roll-Value x ∙ sym is) whole in
    ap roll-Value (sym is ∙ layers_same (λ v. v.0) value_cmp (λ v. v.1) y (out-Value b) here) ∙ roll-out-Value b)

-- the order of values is total
pub value_total : IsTotalOrder value_cmp
value_total = total-law

equal_is : (r : Ordering) → is_eq r ≡ true → r ≡ Equal
equal_is Less e = absurd (true≢false (sym e))
equal_is Equal e = refl
equal_is Greater e = absurd (true≢false (sym e))

-- the order answers equal exactly at one value
pub equal_exact : (r : Ordering) (u v : Value) → r ≡ value_cmp u v → (r ≡ Equal) ↔ (u ≡ v)
equal_exact r u v e = (λ h. value_exact u v (sym e ∙ h), λ h. e ∙ ap (value_cmp u) (sym h) ∙ tied_itself value_total u)

-- the test of equality tells one value from every other
pub same_exact : (b : _) (u v : Value) → b ≡ is_eq (value_cmp u v) → is_invalid u ≡ false → (V.Bool b ≡ V.Bool true) ↔ ((u ≡ v) × (is_invalid u ≡ false))
same_exact b u v e valid = (
  (λ h. let is : b ≡ true = cc in (value_exact u v (equal_is (value_cmp u v) (sym e ∙ is)), valid)),
  (λ h. ap V.Bool (e ∙ ap is_eq ((equal_exact (value_cmp u v) u v refl).1 h.0))),
)
