-- What the operations give is well made.
use Rattle.std.proofs.Common.{◌≡◌, ℕ, zero, suc, ◌+◌, ◌-◌, ◌≤◌, not, Bool, true, false, if◌then◌else◌, All, List, [], ◌∷◌, ◌++◌, length, take, drop, reverse}
use Rattle.std.proofs.Common.{filter, map, fold, get_or, sym, subst, ℤ, pos, negsuc, ◌+ℤ◌, ◌-ℤ◌, ◌*ℤ◌, neg_ℤ, int_div, unsigned_abs, Option}
use Rattle.std.proofs.Common.{Some, None, Ordering, is_eq, Result, Ok, Err, IfOk, arith}
use Rattle.std.specs.List.{AllByRecursion, zip}
use mathlib.Core.List.{reverse_aux}
use Rattle.std.specs.Int.{int_min, int_max}
use Rattle.std.proofs.lemmas.Bool.{cond_both}
use Rattle.std.proofs.lemmas.List.Elements.{recursion_from_All, All-from_recursion}
use Rattle.use_orders.specs.Canon.{has, common_of, within, without, without_one, bag_of}
use Rattle.use_orders.proofs.Kept.{all_bag}
use Rattle.ocl_values.specs.Order.{value_cmp}
use Rattle.ocl_values.specs.declared.value.Kind.{Kind}
use Rattle.ocl_values.specs.declared.value.Kind.TheVariants as K
use Rattle.ocl_values.specs.declared.value.Value.{Value, Row_of-Value, end_of-Value, more_of-Value, items-the_row-Value}
use Rattle.ocl_values.specs.declared.value.Value.TheVariants as V
use Rattle.ocl_values.specs.declared.value.Value.TheVariants.{Null, Invalid, Int, Str, Enum, Obj, Coll, Coll'}
use Rattle.ocl_values.specs.declared.integer.IntOp.{IntOp}
use Rattle.ocl_values.specs.declared.integer.IntOp.TheVariants as I
use Rattle.ocl_values.specs.Integers.{in_range, int_value, quotient, remainder, of_one as int_of_one, of_two as int_of_two, of_integer, int_op_value}
use Rattle.ocl_values.specs.Shape.{row_levels, canon, some_invalid, AreTidy, IsWellMade, max_levels}
use Rattle.ocl_collections.specs.declared.op.CollOp.{CollOp}
use Rattle.ocl_collections.specs.declared.op.CollOp.TheVariants as C
use Rattle.ocl_collections.specs.Arguments.{with_integer, with_collection}
use Rattle.ocl_collections.specs.SetAlgebra.{union_kind, in_kind, intersection, difference, symmetric_difference}
use Rattle.ocl_collections.specs.Positions.{holds, put, insert_at, at, place_from, part, sub_sequence, sub_ordered_set}
use Rattle.ocl_collections.specs.Sums.{integer, joined_by}
use Rattle.ocl_collections.specs.Flattening.{leaves, row_leaves, all_leaves}
use Rattle.ocl_collections.specs.Sorting.{by_keys}
use Rattle.ocl_collections.specs.Operations.{of_none, of_one, of_pair, of_two, of_collection, coll_op_value}
use Rattle.ocl_values.proofs.Elements.{parts_in, parts_of, parts_are_well}
use Rattle.ocl_values.proofs.Rows.{levels_row, row_tidy}
use Rattle.ocl_collections.proofs.Parts.{well_Invalid, well_canon}

well_Int : (n : ℤ) → IsWellMade (Int n)
well_Int n = record { tidy = tt; levels = omega arith }

well_Bool : (b : Bool) → IsWellMade (V.Bool b)
well_Bool b = record { tidy = tt; levels = omega arith }

well_Null : IsWellMade Null
well_Null = record { tidy = tt; levels = omega arith }

well_Str : (bytes : List ℕ) → IsWellMade (Str bytes)
well_Str bytes = record { tidy = tt; levels = omega arith }

well_Enum : (e l : ℕ) → IsWellMade (Enum e l)
well_Enum e l = record { tidy = tt; levels = omega arith }

well_Obj : (o : ℕ) → IsWellMade (Obj o)
well_Obj o = record { tidy = tt; levels = omega arith }

well_or_invalid : (b : Bool) (v : Value) → IsWellMade v → IsWellMade (if b then v else Invalid)
well_or_invalid true v well = well
well_or_invalid false v well = well_Invalid

-- integers

well_int_value : (z : ℤ) → IsWellMade (int_value z)
well_int_value z = well_or_invalid (in_range z) (Int z) (well_Int z)

well_quotient : (a b : ℤ) → IsWellMade (quotient a b)
well_quotient a (pos zero) = well_Invalid
well_quotient a (pos (suc n)) = well_int_value (int_div a (pos (suc n)))
well_quotient a (negsuc n) = well_int_value (int_div a (negsuc n))

well_remainder : (a b : ℤ) → IsWellMade (remainder a b)
well_remainder a (pos zero) = well_Invalid
well_remainder a (pos (suc n)) =
    well_or_invalid (in_range (int_div a (pos (suc n)))) (int_value (a -ℤ int_div a (pos (suc n)) *ℤ (pos (suc n))))
    (well_int_value (a -ℤ int_div a (pos (suc n)) *ℤ (pos (suc n))))
well_remainder a (negsuc n) =
    well_or_invalid (in_range (int_div a (negsuc n))) (int_value (a -ℤ int_div a (negsuc n) *ℤ (negsuc n)))
    (well_int_value (a -ℤ int_div a (negsuc n) *ℤ (negsuc n)))

well_int_one : (op : IntOp) (a : ℤ) → IsWellMade (int_of_one op a)
well_int_one I.Neg a = well_int_value (neg_ℤ a)
well_int_one I.Abs a = well_int_value (pos (unsigned_abs a))
well_int_one _ a = well_Invalid

well_int_two : (op : IntOp) (a b : ℤ) → IsWellMade (int_of_two op a b)
well_int_two I.Add a b = well_int_value (a +ℤ b)
well_int_two I.Sub a b = well_int_value (a -ℤ b)
well_int_two I.Mul a b = well_int_value (a *ℤ b)
well_int_two I.Div a b = well_quotient a b
well_int_two I.Mod a b = well_remainder a b
well_int_two I.Lt a b = well_Bool _
well_int_two I.Le a b = well_Bool _
well_int_two I.Gt a b = well_Bool _
well_int_two I.Ge a b = well_Bool _
well_int_two I.Neg a b = well_int_one I.Neg a
well_int_two I.Abs a b = well_int_one I.Abs a
well_int_two I.Max a b = well_int_value (int_max a b)
well_int_two I.Min a b = well_int_value (int_min a b)

well_integer_op : (op : IntOp) (a : ℤ) (b : Value) → IsWellMade (of_integer op a b)
well_integer_op op a (Int b) = well_int_two op a b
well_integer_op op a _ = well_int_one op a

well_int_op : (op : IntOp) (a b : Value) → IsWellMade (int_op_value op a b)
well_int_op op (Int a) b = well_integer_op op a b
well_int_op op _ b = well_Invalid

well_fold : (op : IntOp) (v : Value) (xs : List Value) → IsWellMade v → IsWellMade (fold (int_op_value op) v xs)
well_fold op v [] well = well
well_fold op v (x ∷ xs) well = well_fold op (int_op_value op v x) xs (well_int_op op v x)

well_integer : (v : Value) → IsWellMade (integer v)
well_integer (Int n) = well_Int n
well_integer _ = well_Invalid

well_joined_by : (op : IntOp) (xs : List Value) → IsWellMade (joined_by op xs)
well_joined_by op [] = well_Invalid
well_joined_by op (x ∷ xs) = well_fold op (integer x) xs (well_integer x)

-- lists

module _ {X : Type 0} (P : X → Type 0) where
  both : (xs ys : List X) → AllByRecursion P xs → AllByRecursion P ys → AllByRecursion P (xs ++ ys)
  both [] ys a b = b
  both (x ∷ xs) ys a b = (a.0, both xs ys a.1 b)

  filtered : (p : X → Bool) (xs : List X) → AllByRecursion P xs → AllByRecursion P (filter p xs)
  filtered p [] all = tt
  filtered p (x ∷ xs) all = cond_both (p x) (x ∷ filter p xs) (filter p xs) (AllByRecursion P) (λ _. (all.0, filtered p xs all.1)) (λ _. filtered p xs all.1)

  taken : (n : ℕ) (xs : List X) → AllByRecursion P xs → AllByRecursion P (take n xs)
  taken zero xs all = tt
  taken (suc n) [] all = tt
  taken (suc n) (x ∷ xs) all = (all.0, taken n xs all.1)

  dropped : (n : ℕ) (xs : List X) → AllByRecursion P xs → AllByRecursion P (drop n xs)
  dropped zero xs all = all
  dropped (suc n) [] all = tt
  dropped (suc n) (x ∷ xs) all = dropped n xs all.1

  turned_onto : (xs done : List X) → AllByRecursion P xs → AllByRecursion P done → AllByRecursion P (reverse_aux xs done)
  turned_onto [] done all rest = rest
  turned_onto (x ∷ xs) done all rest = turned_onto xs (x ∷ done) all.1 (all.0, rest)

  turned : (xs : List X) → AllByRecursion P xs → AllByRecursion P (reverse xs)
  turned xs all = turned_onto xs [] all tt

abbrev Wells : List Value → Type 0
Wells xs = AllByRecursion IsWellMade xs

well_at : (n : ℕ) (xs : List Value) → Wells xs → IsWellMade (get_or xs n Invalid)
well_at n [] all = well_Invalid
well_at zero (x ∷ xs) all = all.0
well_at (suc n) (x ∷ xs) all = well_at n xs all.1

shared : (xs ys : List Value) → Wells xs → Wells (common_of value_cmp xs ys)
shared [] ys all = tt
shared (x ∷ xs) ys all =
    cond_both (has value_cmp ys x) (x ∷ common_of value_cmp xs (without_one value_cmp ys x)) (common_of value_cmp xs ys) Wells
    (λ _. (all.0, shared xs (without_one value_cmp ys x) all.1))
    (λ _. shared xs ys all.1)

inserted : (n : ℕ) (xs : List Value) (x : Value) → Wells xs → IsWellMade x → Wells (take n xs ++ x ∷ drop n xs)
inserted n xs x all one = both IsWellMade (take n xs) (x ∷ drop n xs) (taken IsWellMade n xs all) (one, dropped IsWellMade n xs all)

well_put : (kind : Kind) (n : ℕ) (xs : List Value) (x : Value) → Wells xs → IsWellMade x → Wells (put kind n xs x)
well_put kind n xs x all one = cond_both (holds kind xs x) xs (take n xs ++ x ∷ drop n xs) Wells (λ _. all) (λ _. inserted n xs x all one)

-- leaves

mutual
  well_leaves : (v : Value) → Wells (leaves v)
  well_leaves Null = (well_Null, tt)
  well_leaves Invalid = (well_Invalid, tt)
  well_leaves (V.Bool b) = (well_Bool b, tt)
  well_leaves (Int n) = (well_Int n, tt)
  well_leaves (Str bytes) = (well_Str bytes, tt)
  well_leaves (Enum e l) = (well_Enum e l, tt)
  well_leaves (Obj o) = (well_Obj o, tt)
  well_leaves (Coll' kind shape row) = well_row_leaves row

  well_row_leaves : {m : _} (row : Row_of-Value m) → Wells (row_leaves row)
  well_row_leaves end_of-Value = tt
  well_row_leaves (more_of-Value v rest) = both IsWellMade (leaves v) (row_leaves rest) (well_leaves v) (well_row_leaves rest)

well_all_leaves : (xs : List Value) → Wells (all_leaves xs)
well_all_leaves [] = tt
well_all_leaves (v ∷ vs) = both IsWellMade (leaves v) (all_leaves vs) (well_leaves v) (well_all_leaves vs)

-- positions

well_place : (n : ℕ) (xs : List Value) (x : Value) → IsWellMade (place_from n xs x)
well_place n [] x = well_Invalid
well_place n (y ∷ ys) x = cond_both (is_eq (value_cmp x y)) (Int (pos n)) (place_from (n + 1) ys x) IsWellMade (λ _. well_Int _) (λ _. well_place (n + 1) ys x)

well_insert_at : (kind : Kind) (xs : List Value) (i : ℤ) (x : Value) → Wells xs → IsWellMade x → IsWellMade (insert_at kind xs i x)
well_insert_at kind xs (pos i) x all one = well_or_invalid _ _ (well_canon kind (put kind (i - 1) xs x) (well_put kind (i - 1) xs x all one))
well_insert_at kind xs (negsuc i) x all one = well_Invalid

well_at_place : (kind : Kind) (xs : List Value) (i : ℤ) → Wells xs → IsWellMade (at kind xs i)
well_at_place kind xs (pos i) all = well_or_invalid _ _ (well_at (i - 1) xs all)
well_at_place kind xs (negsuc i) all = well_Invalid

well_part : (kind : Kind) (xs : List Value) (l u : ℤ) → Wells xs → IsWellMade (part kind xs l u)
well_part kind xs (pos l) (pos u) all =
    well_or_invalid _ _
    (well_canon kind (take (u + 1 - l) (drop (l - 1) xs)) (taken IsWellMade (u + 1 - l) (drop (l - 1) xs) (dropped IsWellMade (l - 1) xs all)))
well_part kind xs (pos l) (negsuc u) all = well_Invalid
well_part kind xs (negsuc l) u all = well_Invalid

well_sub_sequence : (kind : Kind) (xs : List Value) (l u : ℤ) → Wells xs → IsWellMade (sub_sequence kind xs l u)
well_sub_sequence K.Sequence xs l u all = well_part K.Sequence xs l u all
well_sub_sequence _ xs l u all = well_Invalid

well_sub_ordered_set : (kind : Kind) (xs : List Value) (l u : ℤ) → Wells xs → IsWellMade (sub_ordered_set kind xs l u)
well_sub_ordered_set K.OrderedSet xs l u all = well_part K.OrderedSet xs l u all
well_sub_ordered_set _ xs l u all = well_Invalid

-- set algebra

well_in_kind : (k : Option Kind) (vs : List Value) → Wells vs → IsWellMade (in_kind k vs)
well_in_kind (Some kind) vs all = well_canon kind vs all
well_in_kind None vs all = well_Invalid

within_well : (xs ys : List Value) → Wells xs → IsWellMade (canon K.Set (within value_cmp xs ys))
within_well xs ys all = well_canon K.Set (within value_cmp xs ys) (filtered IsWellMade (λ x. has value_cmp ys x) xs all)

without_all : (xs ys : List Value) → Wells xs → Wells (without value_cmp xs ys)
without_all xs ys all = filtered IsWellMade (λ x. not (has value_cmp ys x)) xs all

well_intersection : (kind : Kind) (xs : List Value) (other : Kind) (ys : List Value) → Wells xs → IsWellMade (intersection kind xs other ys)
well_intersection K.Set xs K.Set ys all = within_well xs ys all
well_intersection K.Set xs K.Bag ys all = within_well xs ys all
well_intersection K.Bag xs K.Set ys all = within_well xs ys all
well_intersection K.Bag xs K.Bag ys all = well_canon K.Bag (common_of value_cmp xs ys) (shared xs ys all)
well_intersection _ xs _ ys all = well_Invalid

well_difference : (kind : Kind) (xs : List Value) (other : Kind) (ys : List Value) → Wells xs → IsWellMade (difference kind xs other ys)
well_difference K.Set xs K.Set ys all = well_canon K.Set (without value_cmp xs ys) (without_all xs ys all)
well_difference _ xs _ ys all = well_Invalid

well_symmetric : (kind : Kind) (xs : List Value) (other : Kind) (ys : List Value) → Wells xs → Wells ys → IsWellMade (symmetric_difference kind xs other ys)
well_symmetric K.Set xs K.Set ys all more =
    well_canon K.Set (without value_cmp xs ys ++ without value_cmp ys xs)
    (both IsWellMade (without value_cmp xs ys) (without value_cmp ys xs) (without_all xs ys all) (without_all ys xs more))
well_symmetric _ xs _ ys all more = well_Invalid

-- the table

well_of_none : (op : CollOp) (kind : Kind) (xs : List Value) → Wells xs → IsWellMade (of_none op kind xs)
well_of_none C.Size kind xs all = well_Int _
well_of_none C.IsEmpty kind xs all = well_Bool _
well_of_none C.NotEmpty kind xs all = well_Bool _
well_of_none C.First kind xs all = well_or_invalid _ _ (well_at 0 xs all)
well_of_none C.Last kind xs all = well_or_invalid _ _ (well_at (length xs - 1) xs all)
well_of_none C.Reverse kind xs all = well_or_invalid _ _ (well_canon kind (reverse xs) (turned IsWellMade xs all))
well_of_none C.Sum kind xs all = well_fold I.Add (Int (pos 0)) xs (well_Int _)
well_of_none C.Max kind xs all = well_joined_by I.Max xs
well_of_none C.Min kind xs all = well_joined_by I.Min xs
well_of_none C.AsSet kind xs all = well_canon K.Set xs all
well_of_none C.AsBag kind xs all = well_canon K.Bag xs all
well_of_none C.AsSequence kind xs all = well_canon K.Sequence xs all
well_of_none C.AsOrderedSet kind xs all = well_canon K.OrderedSet xs all
well_of_none C.Flatten kind xs all = well_canon kind (all_leaves xs) (well_all_leaves xs)
well_of_none _ kind xs all = well_Invalid

well_of_pair : (op : CollOp) (kind : Kind) (xs : List Value) (other : Kind) (ys : List Value) → Wells xs → Wells ys → IsWellMade (of_pair op kind xs other ys)
well_of_pair C.IncludesAll kind xs other ys all more = well_Bool _
well_of_pair C.ExcludesAll kind xs other ys all more = well_Bool _
well_of_pair C.Union kind xs other ys all more = well_in_kind (union_kind kind other) (xs ++ ys) (both IsWellMade xs ys all more)
well_of_pair C.Intersection kind xs other ys all more = well_intersection kind xs other ys all
well_of_pair C.Minus kind xs other ys all more = well_difference kind xs other ys all
well_of_pair C.SymmetricDifference kind xs other ys all more = well_symmetric kind xs other ys all more
well_of_pair _ kind xs other ys all more = well_Invalid

well_with_integer : (v : Value) (f : ℤ → Value) → ((n : ℤ) → IsWellMade (f n)) → IsWellMade (with_integer v f)
well_with_integer (Int n) f well = well n
well_with_integer _ f well = well_Invalid

row_wells : {m : _} (row : Row_of-Value m) → AreTidy row → some_invalid (items-the_row-Value m row) ≡ false → 1 + row_levels row ≤ max_levels
    → Wells (items-the_row-Value m row)
row_wells {m} row tidy none low =
    let same = levels_row m row in
    parts_are_well (items-the_row-Value m row) (parts_in (items-the_row-Value m row) (row_tidy m row tidy) none (omega (arith, same, low)))

well_with_collection : (v : Value) (f : Kind → List Value → Value) → IsWellMade v → ((kind : Kind) (all : List Value) → Wells all → IsWellMade (f kind all))
    → IsWellMade (with_collection v f)
well_with_collection (Coll' kind shape row) f well each = each kind (items-the_row-Value _ row) (row_wells row well.tidy.2 well.tidy.1 well.levels)
well_with_collection _ f well each = well_Invalid

well_pair_with : (op : CollOp) (kind : Kind) (xs : List Value) (x : Value) → Wells xs → IsWellMade x → IsWellMade (with_collection x (of_pair op kind xs))
well_pair_with op kind xs x all one = well_with_collection x (of_pair op kind xs) one (λ other ys more. well_of_pair op kind xs other ys all more)

well_of_one : (op : CollOp) (kind : Kind) (xs : List Value) (x : Value) → Wells xs → IsWellMade x → IsWellMade (of_one op kind xs x)
well_of_one C.Includes kind xs x all one = well_Bool _
well_of_one C.Excludes kind xs x all one = well_Bool _
well_of_one C.Count kind xs x all one = well_Int _
well_of_one C.Including kind xs x all one = well_canon kind (xs ++ x ∷ []) (both IsWellMade xs (x ∷ []) all (one, tt))
well_of_one C.Excluding kind xs x all one = well_canon kind (without value_cmp xs (x ∷ [])) (without_all xs (x ∷ []) all)
well_of_one C.Append kind xs x all one = well_or_invalid _ _ (well_canon kind (put kind (length xs) xs x) (well_put kind (length xs) xs x all one))
well_of_one C.Prepend kind xs x all one = well_or_invalid _ _ (well_canon kind (put kind 0 xs x) (well_put kind 0 xs x all one))
well_of_one C.At kind xs x all one = well_with_integer x (at kind xs) (λ i. well_at_place kind xs i all)
well_of_one C.IndexOf kind xs x all one = well_or_invalid _ _ (well_place 1 xs x)
well_of_one op kind xs x all one = well_pair_with op kind xs x all one

well_of_two : (op : CollOp) (kind : Kind) (xs : List Value) (x y : Value) → Wells xs → IsWellMade y → IsWellMade (of_two op kind xs x y)
well_of_two C.InsertAt kind xs x y all one = well_with_integer x (λ i. insert_at kind xs i y) (λ i. well_insert_at kind xs i y all one)
well_of_two C.SubSequence kind xs x y all one =
    well_with_integer x (λ l. with_integer y (sub_sequence kind xs l))
    (λ l. well_with_integer y (sub_sequence kind xs l) (λ u. well_sub_sequence kind xs l u all))
well_of_two C.SubOrderedSet kind xs x y all one =
    well_with_integer x (λ l. with_integer y (sub_ordered_set kind xs l))
    (λ l. well_with_integer y (sub_ordered_set kind xs l) (λ u. well_sub_ordered_set kind xs l u all))
well_of_two _ kind xs x y all one = well_Invalid

well_of_collection : (op : CollOp) (args : List Value) (kind : Kind) (xs : List Value) → Wells args → Wells xs → IsWellMade (of_collection op args kind xs)
well_of_collection op [] kind xs given all = well_of_none op kind xs all
well_of_collection op (x ∷ []) kind xs given all = well_of_one op kind xs x all given.0
well_of_collection op (x ∷ y ∷ []) kind xs given all = well_of_two op kind xs x y all given.1.0
well_of_collection op (x ∷ y ∷ z ∷ rest) kind xs given all = well_Invalid

pub well_op : (op : CollOp) (source : Value) (args : List Value) → IsWellMade source → All IsWellMade args → IsWellMade (coll_op_value op source args)
well_op op source args well given =
    cond_both (some_invalid args) Invalid (with_collection source (of_collection op args)) IsWellMade
    (λ _. well_Invalid)
    (λ _. well_with_collection source (of_collection op args) well
    (λ kind all each. well_of_collection op args kind all (recursion_from_All IsWellMade args given) each))

-- the same where a match found the elements
pub well_given : (op : CollOp) (args : List Value) (kind : Kind) (all : List Value) → IsWellMade (Coll kind all) → All IsWellMade args
    → IsWellMade (of_collection op args kind all)
well_given op args kind all well given =
    well_of_collection op args kind all (recursion_from_All IsWellMade args given) (parts_are_well all (parts_of kind all well))

-- sorting by keys

well_beside : (keys items : List Value) → Wells items → AllByRecursion (λ pair. IsWellMade pair.1) (zip keys items)
well_beside [] items all = tt
well_beside (k ∷ keys) [] all = tt
well_beside (k ∷ keys) (v ∷ items) all = (all.0, well_beside keys items all.1)

well_seconds : (pairs : List (Value × Value)) → AllByRecursion (λ pair. IsWellMade pair.1) pairs → Wells (map (λ pair. pair.1) pairs)
well_seconds [] all = tt
well_seconds (p ∷ pairs) all = (all.0, well_seconds pairs all.1)

well_sorted : (items keys : List Value) → All IsWellMade items → All IsWellMade (by_keys items keys)
well_sorted items keys all =
    let pairs = zip keys items in
    let order : Value × Value → Value × Value → Ordering = λ a b. value_cmp a.0 b.0 in
    All-from_recursion IsWellMade _
    (well_seconds (bag_of order pairs) (all_bag order (λ pair. IsWellMade pair.1) pairs (well_beside keys items (recursion_from_All IsWellMade items all))))

pub sorted_result : {R E : Type 0} (r : Result R E) (list : R → List Value) (items keys : List Value) → All IsWellMade items
    → IfOk r (λ v. list v ≡ by_keys items keys) → IfOk r (λ v. All IsWellMade (list v))
sorted_result (Ok v) list items keys all is = subst (All IsWellMade) (sym is) (well_sorted items keys all)
sorted_result (Err e) list items keys all is = is
