-- A collection of the leaves of values.
use Rattle.std.proofs.Common.{◌≡◌, ◌≤◌, ◌++◌, ◌+◌, nat_le, true, false, cond, List, [], ◌∷◌, refl, sym, ap, ◌∙◌, arith, append_assoc}
use Rattle.std.proofs.Common.{append-nil}
use Rattle.std.specs.List.{AllByRecursion}
use Rattle.use_orders.proofs.Spread.{bag_flat, set_flat, firsts_flat}
use Rattle.ocl_values.specs.Logic.{is_invalid}
use Rattle.ocl_values.specs.Shape.{size_of, sizes_of, most_levels, canonical, canon, some_invalid, IsTidy, AreTidy, IsWellMade, are_unfit, max_levels}
use Rattle.ocl_values.specs.declared.value.Kind.{Kind}
use Rattle.ocl_values.specs.declared.value.Kind.TheVariants.{Set, OrderedSet, Bag, Sequence}
use Rattle.ocl_values.specs.declared.value.Value.{Value, Row_of-Value, end_of-Value, more_of-Value, items-the_row-Value}
use Rattle.ocl_values.specs.declared.value.Value.TheVariants as V
use Rattle.ocl_values.specs.declared.value.Value.TheVariants.{Null, Invalid, Int, Str, Enum, Obj, Coll, Coll'}
use Rattle.ocl_values.proofs.Elements.{IsPart, neither, parts_of}
use Rattle.ocl_values.proofs.Exact.{value_exact, value_total}
use Rattle.ocl_collections.specs.Flattening.{leaves, row_leaves, all_leaves, flattened}
use Rattle.ocl_collections.specs.Operations.{of_collection, coll_op_value}
use Rattle.ocl_collections.specs.declared.op.CollOp.TheVariants.{Flatten}
use Rattle.ocl_collections.proofs.Parts.{parts, parts_well, low_from, all_kept, canon_is}
use Rattle.ocl_collections.proofs.Collected.{both, of_parts}
use Rattle.ocl_collections.proofs.Rising.{kept_of, found}

-- each leaf may stand in a collection

mutual
  leaves_fit : (v : Value) → IsTidy v → is_invalid v ≡ false → AllByRecursion IsPart (leaves v)
  leaves_fit Null tidy valid = ((tt, refl, omega arith), tt)
  leaves_fit Invalid tidy valid = ((tt, valid, omega arith), tt)
  leaves_fit (V.Bool b) tidy valid = ((tt, refl, omega arith), tt)
  leaves_fit (Int n) tidy valid = ((tt, refl, omega arith), tt)
  leaves_fit (Str bytes) tidy valid = ((tt, refl, omega arith), tt)
  leaves_fit (Enum e l) tidy valid = ((tt, refl, omega arith), tt)
  leaves_fit (Obj o) tidy valid = ((tt, refl, omega arith), tt)
  leaves_fit (Coll' kind shape row) tidy valid = row_leaves_fit row tidy.2 tidy.1

  row_leaves_fit : {m : _} (row : Row_of-Value m) → AreTidy row → some_invalid (items-the_row-Value m row) ≡ false → AllByRecursion IsPart (row_leaves row)
  row_leaves_fit end_of-Value tidy none = tt
  row_leaves_fit (more_of-Value v rest) tidy none =
      let split = neither (is_invalid v) (some_invalid (items-the_row-Value _ rest)) none in
      both IsPart (leaves v) (row_leaves rest) (leaves_fit v tidy.0 split.0) (row_leaves_fit rest tidy.1 split.1)

pub all_leaves_fit : (vs : List Value) → AllByRecursion IsPart vs → AllByRecursion IsPart (all_leaves vs)
all_leaves_fit [] all = tt
all_leaves_fit (v ∷ vs) all = both IsPart (leaves v) (all_leaves vs) (leaves_fit v all.0.0 all.0.1) (all_leaves_fit vs all.1)

pub leaves_end : (vs : List Value) (v : Value) → all_leaves (vs ++ v ∷ []) ≡ all_leaves vs ++ leaves v
leaves_end [] v = append-nil (leaves v)
leaves_end (w ∷ vs) v = ap (λ l. leaves w ++ l) (leaves_end vs v) ∙ sym (append_assoc (leaves w) (all_leaves vs) (leaves v))

-- a loop's step
pub moved_more : (out out' whole : List Value) (vs : List Value) (v : Value) → out ≡ whole ++ all_leaves vs → out' ≡ out ++ leaves v
    → out' ≡ whole ++ all_leaves (vs ++ v ∷ [])
moved_more out out' whole vs v so_far push =
    push ∙ ap (λ l. l ++ leaves v) so_far ∙ append_assoc whole (all_leaves vs) (leaves v) ∙ ap (λ l. whole ++ l) (sym (leaves_end vs v))

sizes_append : (us vs : List Value) → sizes_of (us ++ vs) ≡ sizes_of us + sizes_of vs
sizes_append [] vs =
    let none : sizes_of [] ≡ 0 = refl in
    omega (arith, none)
sizes_append (u ∷ us) vs =
    let rest = sizes_append us vs in
    omega (arith, rest)

pub size_within : (all us left rest : List Value) (v : Value) → all ≡ us ++ left → left ≡ v ∷ rest → size_of v ≤ sizes_of all
size_within all us left rest v whole next =
    let sum : sizes_of all ≡ sizes_of us + sizes_of (v ∷ rest) = ap sizes_of (whole ∙ ap (λ l. us ++ l) next) ∙ sizes_append us (v ∷ rest) in
    let one : sizes_of (v ∷ rest) ≡ size_of v + sizes_of rest = refl in
    omega (arith, sum, one)

-- the elements of a collection that `make` makes have the leaves of the items
same_leaves : (kind : Kind) (vs : List Value) → canonical kind (all_leaves (canonical kind vs)) ≡ canonical kind (all_leaves vs)
same_leaves Set vs = set_flat value_total value_exact leaves all_leaves refl (λ x xs. refl) vs
same_leaves OrderedSet vs = firsts_flat value_total value_exact leaves all_leaves refl (λ x xs. refl) vs
same_leaves Bag vs = bag_flat value_total value_exact leaves all_leaves refl (λ x xs. refl) vs
same_leaves Sequence vs = refl

-- of a collection
pub flattened_is : (kind : Kind) (vs l : List Value) → IsWellMade (Coll kind vs) → l ≡ canonical kind (all_leaves vs) → Coll kind l ≡ flattened kind vs
flattened_is kind vs l well is = of_parts kind (all_leaves vs) l (all_leaves_fit vs (parts_of kind vs well)) is

-- of what `make` makes

pub none_flattened : (kind : Kind) (vs : List Value) → are_unfit vs ≡ true
    → Invalid ≡ coll_op_value Flatten (canon kind vs) []
none_flattened kind vs e = sym (ap (λ b. coll_op_value Flatten (cond b Invalid (Coll kind (canonical kind vs))) []) e)

of_made : (kind : Kind) (vs : List Value) → AllByRecursion IsPart vs → coll_op_value Flatten (canon kind vs) [] ≡ flattened kind (canonical kind vs)
of_made kind vs all = sym (found (canon kind vs) kind (canonical kind vs) (canonical kind vs) (of_collection Flatten []) (canon_is kind vs all) refl)

pub made_flattened : (kind : Kind) (vs l : List Value) → AllByRecursion IsWellMade vs → are_unfit vs ≡ false
    → l ≡ canonical kind (all_leaves vs)
    → Coll kind l ≡ coll_op_value Flatten (canon kind vs) []
made_flattened kind vs l well fit is =
    let split = neither (some_invalid vs) (nat_le max_levels (most_levels vs)) fit in
    let all = parts vs well split.0 (low_from (most_levels vs) split.1) in
    let elements = all_kept kind IsPart vs all in
    of_parts kind (all_leaves (canonical kind vs)) l (all_leaves_fit (canonical kind vs) elements) (is ∙ sym (same_leaves kind vs)) ∙ sym (of_made kind vs all)

pub made_flattened_well : (kind : Kind) (vs l : List Value) → AllByRecursion IsWellMade vs → are_unfit vs ≡ false
    → l ≡ canonical kind (all_leaves vs) → IsWellMade (Coll kind l)
made_flattened_well kind vs l well fit is =
    let split = neither (some_invalid vs) (nat_le max_levels (most_levels vs)) fit in
    parts_well kind (all_leaves vs) l (all_leaves_fit vs (parts vs well split.0 (low_from (most_levels vs) split.1))) is

-- the same of elements that a collection has
pub as_operation : (kind : Kind) (vs : List Value) → IsWellMade (Coll kind vs) → coll_op_value Flatten (canon kind vs) [] ≡ flattened kind vs
as_operation kind vs well = of_made kind vs (parts_of kind vs well) ∙ ap (flattened kind) (kept_of kind vs well)
