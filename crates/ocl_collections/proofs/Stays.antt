-- Where elements stand as their kind keeps them, and as another does.
use Rattle.std.proofs.Common.{◌≡◌, ◌++◌, ◌∷◌, [], ℕ, zero, suc, Bool, true, false, cond, if◌then◌else◌, List, take, drop, reverse, refl, sym, ap}
use Rattle.std.proofs.Common.{◌∙◌, subst, true≢false}
use mathlib.Core.List.{reverse_aux}
use Rattle.std.specs.List.{AllByRecursion}
use Rattle.use_orders.specs.Canon.{has, set_of, firsts_of, selected}
use Rattle.use_orders.proofs.Merged.{rises, up_from_rise}
use Rattle.use_orders.proofs.Joined.{bag_same}
use Rattle.use_orders.proofs.Distinct.{all_selected, all_inserted, all_taken, firsts_set, firsts_selected, firsts_part, firsts_reverse, firsts_inserted}
use Rattle.use_orders.proofs.Selected.{set_selected, bag_selected}
use Rattle.ocl_values.specs.Order.{value_cmp}
use Rattle.ocl_values.specs.Shape.{canonical, canon, IsWellMade}
use Rattle.ocl_values.specs.declared.value.Kind.{Kind}
use Rattle.ocl_values.specs.declared.value.Kind.TheVariants.{Set, OrderedSet, Bag, Sequence}
use Rattle.ocl_values.specs.declared.value.Value.{Value}
use Rattle.ocl_values.specs.declared.value.Value.TheVariants.{Coll, Invalid}
use Rattle.ocl_values.proofs.Elements.{IsPart, parts_of}
use Rattle.ocl_values.proofs.Exact.{value_exact, value_total}
use Rattle.ocl_collections.specs.Positions.{has_places, holds, put, reversed}
use Rattle.ocl_collections.proofs.Parts.{canon_is, canon_same, parts_well}
use Rattle.ocl_collections.proofs.Rising.{kept_of, bag_up}
use Rattle.ocl_collections.proofs.Collected.{of_parts, is_unfit, part_of, none_with}

-- another kind

pub from_set : (to : Kind) (xs : List Value) → set_of value_cmp xs ≡ xs → canonical to xs ≡ xs
from_set Set xs is = is
from_set OrderedSet xs is = firsts_set value_cmp value_total xs is
from_set Bag xs is = bag_same value_total xs (up_from_rise value_total xs (rises value_total xs is))
from_set Sequence xs is = refl

pub as_kind : (from to : Kind) (xs : List Value) → IsWellMade (Coll from xs) → canonical to xs ≡ xs → Coll to xs ≡ canon to xs
as_kind from to xs well is = sym (canon_is to xs (parts_of from xs well) ∙ ap (Coll to) is)

pub into_kind : (from to : Kind) (xs l : List Value) → IsWellMade (Coll from xs) → l ≡ canonical to xs → Coll to l ≡ canon to xs
into_kind from to xs l well is = of_parts to xs l (parts_of from xs well) is

-- some elements

selected_same : (kind : Kind) (xs : List Value) (flags : List Bool) → IsWellMade (Coll kind xs) → canonical kind (selected xs flags) ≡ selected xs flags
selected_same Set xs flags well = set_selected value_total value_exact xs flags (kept_of Set xs well)
selected_same OrderedSet xs flags well = firsts_selected value_cmp value_total xs flags (kept_of OrderedSet xs well)
selected_same Bag xs flags well = bag_selected value_total xs flags (bag_up Bag xs well refl)
selected_same Sequence xs flags well = refl

pub selection_is : (kind : Kind) (xs l : List Value) (flags : List Bool) → IsWellMade (Coll kind xs) → l ≡ selected xs flags
    → Coll kind l ≡ canon kind (selected xs flags)
selection_is kind xs l flags well is =
    of_parts kind (selected xs flags) l (all_selected IsPart xs flags (parts_of kind xs well)) (is ∙ sym (selected_same kind xs flags well))

pub selection_well : (kind : Kind) (xs l : List Value) (flags : List Bool) → IsWellMade (Coll kind xs) → l ≡ selected xs flags → IsWellMade (Coll kind l)
selection_well kind xs l flags well is =
    parts_well kind (selected xs flags) l (all_selected IsPart xs flags (parts_of kind xs well)) (is ∙ sym (selected_same kind xs flags well))

-- kinds with places

placed : (kind : Kind) (l : List Value) → has_places kind ≡ true → AllByRecursion IsPart l → (kind ≡ OrderedSet → firsts_of value_cmp l ≡ l)
    → Coll kind l ≡ canon kind l
placed Set l at all is = absurd (true≢false (sym at))
placed OrderedSet l at all is = of_parts OrderedSet l l all (sym (is refl))
placed Bag l at all is = absurd (true≢false (sym at))
placed Sequence l at all is = of_parts Sequence l l all refl

firsts_at : (kind : Kind) (xs : List Value) → IsWellMade (Coll kind xs) → kind ≡ OrderedSet → firsts_of value_cmp xs ≡ xs
firsts_at kind xs well e = subst (λ k. canonical k xs ≡ xs) e (kept_of kind xs well)

all_dropped : {X : Type 0} (P : X → Type 0) (n : ℕ) (xs : List X) → AllByRecursion P xs → AllByRecursion P (drop n xs)
all_dropped P zero xs all = all
all_dropped P (suc n) [] all = tt
all_dropped P (suc n) (x ∷ xs) all = all_dropped P n xs all.1

all_turned : {X : Type 0} (P : X → Type 0) (xs done : List X) → AllByRecursion P xs → AllByRecursion P done → AllByRecursion P (reverse_aux xs done)
all_turned P [] done all rest = rest
all_turned P (x ∷ xs) done all rest = all_turned P xs (x ∷ done) all.1 (all.0, rest)

pub part_is : (kind : Kind) (xs l : List Value) (m n : ℕ) → IsWellMade (Coll kind xs) → has_places kind ≡ true → l ≡ take m (drop n xs)
    → Coll kind l ≡ canon kind (take m (drop n xs))
part_is kind xs l m n well at is =
    ap (Coll kind) is
    ∙ placed kind (take m (drop n xs)) at (all_taken IsPart m (drop n xs) (all_dropped IsPart n xs (parts_of kind xs well)))
    (λ e. firsts_part value_cmp value_total m n xs (firsts_at kind xs well e))

pub reverse_is : (kind : Kind) (xs l : List Value) → IsWellMade (Coll kind xs) → has_places kind ≡ true → l ≡ reverse xs → Coll kind l ≡ reversed kind xs
reverse_is kind xs l well at is =
    ap (Coll kind) is
    ∙ placed kind (reverse xs) at (all_turned IsPart xs [] (parts_of kind xs well) tt) (λ e. firsts_reverse value_cmp value_total xs (firsts_at kind xs well e))
    ∙ sym (ap (λ b. if b then canon kind (reverse xs) else Invalid) at)

new_at : (kind : Kind) (xs : List Value) (x : Value) → kind ≡ OrderedSet → holds kind xs x ≡ false → has value_cmp xs x ≡ false
new_at kind xs x e no_more = sym (ap (λ k. holds k xs x) e) ∙ no_more

-- an element that an OrderedSet has
pub put_there : (kind : Kind) (n : ℕ) (xs l : List Value) (x : Value) → IsWellMade (Coll kind xs) → holds kind xs x ≡ true → l ≡ xs
    → Coll kind l ≡ canon kind (put kind n xs x)
put_there kind n xs l x well there is =
    ap (Coll kind) is ∙ sym (canon_same kind xs well (kept_of kind xs well)) ∙ ap (λ b. canon kind (cond b xs (take n xs ++ x ∷ drop n xs))) (sym there)

pub put_unfit : (kind : Kind) (n : ℕ) (xs : List Value) (x : Value) → holds kind xs x ≡ false → is_unfit x ≡ true → Invalid ≡ canon kind (put kind n xs x)
put_unfit kind n xs x new unfit = none_with kind (take n xs) x (drop n xs) unfit ∙ ap (λ b. canon kind (cond b xs (take n xs ++ x ∷ drop n xs))) (sym new)

pub put_new : (kind : Kind) (n : ℕ) (xs l : List Value) (x : Value) → IsWellMade (Coll kind xs) → IsWellMade x → has_places kind ≡ true
    → holds kind xs x ≡ false → is_unfit x ≡ false
    → l ≡ take n xs ++ x ∷ drop n xs → Coll kind l ≡ canon kind (put kind n xs x)
put_new kind n xs l x well one at new fit is =
    ap (Coll kind) is
    ∙ placed kind (take n xs ++ x ∷ drop n xs) at (all_inserted IsPart n xs x (parts_of kind xs well) (part_of x one fit))
    (λ e. firsts_inserted value_cmp value_total n xs x (firsts_at kind xs well e) (new_at kind xs x e new))
    ∙ ap (λ b. canon kind (cond b xs (take n xs ++ x ∷ drop n xs))) (sym new)
