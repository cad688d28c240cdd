-- What `make` makes is well made.
use Rattle.std.proofs.Common.{◌≡◌, ℕ, ◌≤◌, nat_le, ◌||◌, false, cond, List, [], ◌∷◌, ap, ap₂, refl, ◌∙◌, sym, subst, arith}
use Rattle.std.specs.List.{AllByRecursion}
use Rattle.std.proofs.lemmas.Bool.{cond_both}
use Rattle.use_orders.proofs.Bags.{bag_bag}
use Rattle.use_orders.proofs.Merged.{set_set}
use Rattle.use_orders.proofs.Kept.{all_bag, all_set, all_firsts, firsts_firsts}
use Rattle.ocl_values.specs.Order.{value_cmp}
use Rattle.ocl_values.specs.declared.value.Kind.{Kind}
use Rattle.ocl_values.specs.declared.value.Kind.TheVariants.{Set, OrderedSet, Bag, Sequence}
use Rattle.ocl_values.specs.declared.value.Value.{Value}
use Rattle.ocl_values.specs.declared.value.Value.TheVariants.{Coll, Invalid}
use Rattle.ocl_values.specs.Logic.{is_invalid}
use Rattle.ocl_values.specs.Shape.{most_levels, canonical, canon, some_invalid, IsTidy, IsWellMade, are_unfit, max_levels}
use Rattle.ocl_values.proofs.Exact.{value_exact, value_total}
use Rattle.ocl_values.proofs.Rows.{levels_of-Coll, tidy_Coll}
use Rattle.ocl_values.proofs.Elements.{IsPart, neither, parts_of}

pub parts : (vs : List Value) → AllByRecursion IsWellMade vs → some_invalid vs ≡ false → most_levels vs ≤ 255 → AllByRecursion IsPart vs
parts [] all none low = tt
parts (v ∷ vs) all none low =
    let split = neither (is_invalid v) (some_invalid vs) none in
    ((all.0.tidy, split.0, omega arith), parts vs all.1 split.1 (omega arith))

pub all_kept : (kind : Kind) (P : Value → Type 0) (vs : List Value) → AllByRecursion P vs → AllByRecursion P (canonical kind vs)
all_kept Set P vs all = all_set value_total P vs all
all_kept OrderedSet P vs all = all_firsts value_cmp P vs all
all_kept Bag P vs all = all_bag value_cmp P vs all
all_kept Sequence P vs all = all

kept_twice : (kind : Kind) (vs : List Value) → canonical kind (canonical kind vs) ≡ canonical kind vs
kept_twice Set vs = set_set value_total value_exact vs
kept_twice OrderedSet vs = firsts_firsts value_cmp vs
kept_twice Bag vs = bag_bag value_cmp value_total value_exact vs
kept_twice Sequence vs = refl

pub none_invalid : (vs : List Value) → AllByRecursion IsPart vs → some_invalid vs ≡ false
none_invalid [] all = refl
none_invalid (v ∷ vs) all = ap (λ b. b || some_invalid vs) all.0.1 ∙ none_invalid vs all.1

pub none_deep : (vs : List Value) → AllByRecursion IsPart vs → most_levels vs ≤ 255
none_deep [] all = omega arith
none_deep (v ∷ vs) all =
    let one = all.0.2 in
    let rest = none_deep vs all.1 in
    omega (arith, one, rest)

all_tidy : (vs : List Value) → AllByRecursion IsPart vs → AllByRecursion IsTidy vs
all_tidy [] all = tt
all_tidy (v ∷ vs) all = (all.0.0, all_tidy vs all.1)

pub parts_well : (kind : Kind) (vs l : List Value) → AllByRecursion IsPart vs → l ≡ canonical kind vs → IsWellMade (Coll kind l)
parts_well kind vs l all is =
    let kept : AllByRecursion IsPart l = subst (AllByRecursion IsPart) (sym is) (all_kept kind IsPart vs all) in
    let twice : canonical kind l ≡ l = ap (canonical kind) is ∙ kept_twice kind vs ∙ sym is in
    let deep = none_deep l kept in
    let levels = levels_of-Coll kind l in
    record {
      tidy = tidy_Coll kind l (record { kept = twice; none = none_invalid l kept; each = all_tidy l kept });
      levels = omega (arith, deep, levels);
    }

pub well_Invalid : IsWellMade Invalid
well_Invalid = record { tidy = tt; levels = omega arith }

pub low_from : (n : ℕ) → nat_le max_levels n ≡ false → n ≤ 255
low_from n e = grind (arith, e)

-- a collection of well-made values, as `canon` makes it
pub well_canon : (kind : Kind) (vs : List Value) → AllByRecursion IsWellMade vs → IsWellMade (canon kind vs)
well_canon kind vs all =
    cond_both (are_unfit vs) Invalid (Coll kind (canonical kind vs)) IsWellMade
    (λ _. well_Invalid)
    (λ e.
    let split = neither (some_invalid vs) (nat_le max_levels (most_levels vs)) e in
    parts_well kind vs (canonical kind vs) (parts vs all split.0 (low_from (most_levels vs) split.1)) refl)

pub made_well : (kind : Kind) (vs l : List Value) → AllByRecursion IsWellMade vs → are_unfit vs ≡ false
    → l ≡ canonical kind vs → IsWellMade (Coll kind l)
made_well kind vs l all fit is =
    let split = neither (some_invalid vs) (nat_le max_levels (most_levels vs)) fit in
    parts_well kind vs l (parts vs all split.0 (low_from (most_levels vs) split.1)) is

-- where all are parts, `canon` makes a collection
pub canon_is : (kind : Kind) (vs : List Value) → AllByRecursion IsPart vs → canon kind vs ≡ Coll kind (canonical kind vs)
canon_is kind vs all =
    let deep = none_deep vs all in
    let low : nat_le max_levels (most_levels vs) ≡ false = grind (arith, deep) in
    ap₂ (λ a b. cond (a || b) Invalid (Coll kind (canonical kind vs))) (none_invalid vs all) low

-- a well-made collection is what `canon` makes of its elements
pub canon_same : (kind : Kind) (vs : List Value) → IsWellMade (Coll kind vs) → canonical kind vs ≡ vs → canon kind vs ≡ Coll kind vs
canon_same kind vs well same = canon_is kind vs (parts_of kind vs well) ∙ ap (Coll kind) same
