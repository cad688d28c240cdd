-- A collection that is made of elements as its kind keeps them is what `canon` makes.
use Rattle.std.proofs.Common.{◌≡◌, ◌≤◌, nat_le, ◌||◌, Bool, true, false, cond, Option, Some, ◌⊎◌, inl, inr, ⊎_elim, true≢false, List, [], ◌∷◌, ◌++◌, filter}
use Rattle.std.proofs.Common.{refl, sym, ap, ◌∙◌, arith, IsSorted}
use Rattle.std.specs.List.{AllByRecursion}
use Rattle.use_orders.specs.Canon.{set_of, has, common_of, within, without}
use Rattle.use_orders.proofs.Staying.{all_filter, all_common, firsts_filter, bag_filter, bag_common, set_within}
use Rattle.use_orders.proofs.Merged.{set_filter}
use Rattle.ocl_values.specs.Order.{value_cmp}
use Rattle.ocl_values.specs.Logic.{is_invalid}
use Rattle.ocl_values.specs.Shape.{levels_of, most_levels, canonical, canon, some_invalid, IsWellMade, are_unfit, max_levels}
use Rattle.ocl_values.specs.declared.value.Kind.{Kind}
use Rattle.ocl_values.specs.declared.value.Kind.TheVariants.{Set, OrderedSet, Bag, Sequence}
use Rattle.ocl_values.specs.declared.value.Value.{Value}
use Rattle.ocl_values.specs.declared.value.Value.TheVariants.{Coll, Invalid}
use Rattle.ocl_values.proofs.Exact.{value_exact, value_total}
use Rattle.ocl_collections.specs.SetAlgebra.{union_kind}
use Rattle.ocl_values.proofs.Elements.{IsPart, neither, parts_of}
use Rattle.ocl_collections.proofs.Parts.{low_from, canon_is}
use Rattle.ocl_collections.proofs.Rising.{kept_of, set_up, bag_up}

pub both : {X : Type 0} (P : X → Type 0) (xs ys : List X) → AllByRecursion P xs → AllByRecursion P ys → AllByRecursion P (xs ++ ys)
both P [] ys a b = b
both P (x ∷ xs) ys a b = (a.0, both P xs ys a.1 b)

pub of_parts : (kind : Kind) (vs l : List Value) → AllByRecursion IsPart vs → l ≡ canonical kind vs → Coll kind l ≡ canon kind vs
of_parts kind vs l all is = ap (Coll kind) is ∙ sym (canon_is kind vs all)

-- one element more

abbrev pub is_unfit : Value → Bool
is_unfit x = is_invalid x || nat_le max_levels (levels_of x)

pub part_of : (x : Value) → IsWellMade x → is_unfit x ≡ false → IsPart x
part_of x well fit =
    let split = neither (is_invalid x) (nat_le max_levels (levels_of x)) fit in
    (well.tidy, split.0, low_from (levels_of x) split.1)

pub added : (kind : Kind) (xs : List Value) (x : Value) (l : List Value) → IsWellMade (Coll kind xs) → IsWellMade x → is_unfit x ≡ false
    → l ≡ canonical kind (xs ++ x ∷ []) → Coll kind l ≡ canon kind (xs ++ x ∷ [])
added kind xs x l well one fit is = of_parts kind (xs ++ x ∷ []) l (both IsPart xs (x ∷ []) (parts_of kind xs well) (part_of x one fit, tt)) is

or_true : (a : Bool) → (a || true) ≡ true
or_true true = refl
or_true false = refl

either : (a b : Bool) → (a || b) ≡ true → (a ≡ true) ⊎ (b ≡ true)
either true b e = inl refl
either false b e = inr e

invalid_in : (xs : List Value) (x : Value) (ys : List Value) → is_invalid x ≡ true → some_invalid (xs ++ x ∷ ys) ≡ true
invalid_in [] x ys e = ap (λ b. b || some_invalid ys) e
invalid_in (y ∷ xs) x ys e = ap (λ b. is_invalid y || b) (invalid_in xs x ys e) ∙ or_true (is_invalid y)

levels_in : (xs : List Value) (x : Value) (ys : List Value) → levels_of x ≤ most_levels (xs ++ x ∷ ys)
levels_in [] x ys = omega arith
levels_in (y ∷ xs) x ys =
    let rest = levels_in xs x ys in
    omega (arith, rest)

deep_in : (xs : List Value) (x : Value) (ys : List Value) → nat_le max_levels (levels_of x) ≡ true → nat_le max_levels (most_levels (xs ++ x ∷ ys)) ≡ true
deep_in xs x ys e =
    let within = levels_in xs x ys in
    grind (arith, within, e)

unfit_in : (xs : List Value) (x : Value) (ys : List Value) → is_unfit x ≡ true → are_unfit (xs ++ x ∷ ys) ≡ true
unfit_in xs x ys e =
    ⊎_elim
    (λ i. ap (λ b. b || nat_le max_levels (most_levels (xs ++ x ∷ ys))) (invalid_in xs x ys i))
    (λ d. ap (λ b. some_invalid (xs ++ x ∷ ys) || b) (deep_in xs x ys d) ∙ or_true (some_invalid (xs ++ x ∷ ys)))
    (either (is_invalid x) (nat_le max_levels (levels_of x)) e)

pub none_with : (kind : Kind) (xs : List Value) (x : Value) (ys : List Value) → is_unfit x ≡ true → Invalid ≡ canon kind (xs ++ x ∷ ys)
none_with kind xs x ys e = sym (ap (λ b. cond b Invalid (Coll kind (canonical kind (xs ++ x ∷ ys)))) (unfit_in xs x ys e))

pub none_added : (kind : Kind) (xs : List Value) (x : Value) → is_unfit x ≡ true → Invalid ≡ canon kind (xs ++ x ∷ [])
none_added kind xs x e = none_with kind xs x [] e

-- without an element

kept_without : (kind : Kind) (p : Value → Bool) (xs : List Value) → IsWellMade (Coll kind xs) → filter p xs ≡ canonical kind (filter p xs)
kept_without Set p xs well = set_filter value_total value_exact p xs (kept_of Set xs well)
kept_without OrderedSet p xs well = firsts_filter value_cmp p xs (kept_of OrderedSet xs well)
kept_without Bag p xs well = bag_filter value_cmp value_total p xs (bag_up Bag xs well refl)
kept_without Sequence p xs well = refl

-- some elements of a collection
pub some_of : (kind : Kind) (p : Value → Bool) (xs l : List Value) → IsWellMade (Coll kind xs) → l ≡ filter p xs → Coll kind l ≡ canon kind (filter p xs)
some_of kind p xs l well is = of_parts kind (filter p xs) l (all_filter IsPart p xs (parts_of kind xs well)) (is ∙ kept_without kind p xs well)

-- two collections

pub joined : (kind other k : Kind) (xs ys l : List Value) → IsWellMade (Coll kind xs) → IsWellMade (Coll other ys) → l ≡ canonical k (xs ++ ys)
    → Coll k l ≡ canon k (xs ++ ys)
joined kind other k xs ys l a b is = of_parts k (xs ++ ys) l (both IsPart xs ys (parts_of kind xs a) (parts_of other ys b)) is

abbrev is_bag : Option Kind → Bool
is_bag (Some Bag) = true
is_bag _ = false

abbrev ascends : Kind → Bool
ascends Set = true
ascends Bag = true
ascends _ = false

ascends_up : (kind : Kind) (xs : List Value) → IsWellMade (Coll kind xs) → ascends kind ≡ true → IsSorted value_cmp xs
ascends_up Set xs well e = set_up Set xs well refl
ascends_up Bag xs well e = bag_up Bag xs well refl
ascends_up _ xs well e = absurd (true≢false (sym e))

both_ascend : (kind other : Kind) → is_bag (union_kind kind other) ≡ true → (ascends kind ≡ true) × (ascends other ≡ true)
both_ascend Set Set e = absurd (true≢false (sym e))
both_ascend Set OrderedSet e = absurd (true≢false (sym e))
both_ascend Set Bag e = (refl, refl)
both_ascend Set Sequence e = absurd (true≢false (sym e))
both_ascend OrderedSet Set e = absurd (true≢false (sym e))
both_ascend OrderedSet OrderedSet e = absurd (true≢false (sym e))
both_ascend OrderedSet Bag e = absurd (true≢false (sym e))
both_ascend OrderedSet Sequence e = absurd (true≢false (sym e))
both_ascend Bag Set e = (refl, refl)
both_ascend Bag OrderedSet e = absurd (true≢false (sym e))
both_ascend Bag Bag e = (refl, refl)
both_ascend Bag Sequence e = absurd (true≢false (sym e))
both_ascend Sequence Set e = absurd (true≢false (sym e))
both_ascend Sequence OrderedSet e = absurd (true≢false (sym e))
both_ascend Sequence Bag e = absurd (true≢false (sym e))
both_ascend Sequence Sequence e = absurd (true≢false (sym e))

-- the sides of a union that is a Bag
module _ (kind other k : Kind) (xs ys : List Value) (a : IsWellMade (Coll kind xs)) (b : IsWellMade (Coll other ys)) (is : union_kind kind other ≡ Some k) where
  pub sides_up : k ≡ Bag → IsSorted value_cmp xs × IsSorted value_cmp ys
  sides_up e =
      let up = both_ascend kind other (ap is_bag (is ∙ ap Some e)) in
      (ascends_up kind xs a up.0, ascends_up other ys b up.1)

-- what two Bags share
pub shared_bags : (xs ys l : List Value) → IsWellMade (Coll Bag xs) → l ≡ common_of value_cmp xs ys → Coll Bag l ≡ canon Bag (common_of value_cmp xs ys)
shared_bags xs ys l well is =
    of_parts Bag (common_of value_cmp xs ys) l (all_common value_cmp IsPart xs ys (parts_of Bag xs well))
    (is ∙ bag_common value_cmp value_total xs ys (bag_up Bag xs well refl))

-- what a list shares with a Set, found in the Set
pub shared_turned : (kind : Kind) (xs ys l : List Value) → IsWellMade (Coll kind xs) → IsWellMade (Coll Set ys) → l ≡ within value_cmp ys xs
    → Coll Set l ≡ canon Set (within value_cmp xs ys)
shared_turned kind xs ys l a b is =
    of_parts Set (within value_cmp xs ys) l (all_filter IsPart (λ x. has value_cmp ys x) xs (parts_of kind xs a))
    (is ∙ set_within value_cmp value_total value_exact xs ys (kept_of Set ys b))

-- what is in one of two Sets alone
pub apart : (xs ys l : List Value) → IsWellMade (Coll Set xs) → IsWellMade (Coll Set ys)
    → l ≡ set_of value_cmp (without value_cmp xs ys ++ without value_cmp ys xs) → Coll Set l ≡ canon Set (without value_cmp xs ys ++ without value_cmp ys xs)
apart xs ys l a b is =
    of_parts Set (without value_cmp xs ys ++ without value_cmp ys xs) l
    (both IsPart (without value_cmp xs ys) (without value_cmp ys xs) (all_filter IsPart _ xs (parts_of Set xs a)) (all_filter IsPart _ ys (parts_of Set ys b)))
    is
