-- Operations by place, of Sequences and OrderedSets. Places count from 1; one out of range makes the result invalid.
use Rattle.std.specs.Prelude.{ℕ, ◌+◌, ◌-◌, nat_le, ◌&&◌, Bool, true, false, cond, if◌then◌else◌, ℤ, pos, negsuc}
use Rattle.std.specs.Prelude.{List, [], ◌∷◌, ◌++◌, length, take, drop, reverse, slice_index_or}
use Rattle.std.specs.Ordering.{is_eq}
use Rattle.use_orders.specs.Canon.{has}
use Rattle.ocl_values.specs.Order.{value_cmp}
use Rattle.ocl_values.specs.Shape.{canon}
use Rattle.ocl_values.specs.declared.value.Kind.{Kind}
use Rattle.ocl_values.specs.declared.value.Kind.TheVariants.{Set, OrderedSet, Bag, Sequence}
use Rattle.ocl_values.specs.declared.value.Value.{Value}
use Rattle.ocl_values.specs.declared.value.Value.TheVariants.{Invalid, Int}

-- the kinds that have places
abbrev pub has_places : Kind → Bool
has_places Set = false
has_places OrderedSet = true
has_places Bag = false
has_places Sequence = true

-- whether a collection of the kind has x and takes it no second time
abbrev pub holds : Kind → List Value → Value → Bool
holds OrderedSet xs x = has value_cmp xs x
holds _ xs x = false

-- the elements with x after the first n; an OrderedSet that has x stays as it is
abbrev pub put : Kind → ℕ → List Value → Value → List Value
put kind n xs x = cond (holds kind xs x) xs (take n xs ++ x ∷ drop n xs)

abbrev pub append : Kind → List Value → Value → Value
append kind xs x = if has_places kind then canon kind (put kind (length xs) xs x) else Invalid

abbrev pub prepend : Kind → List Value → Value → Value
prepend kind xs x = if has_places kind then canon kind (put kind 0 xs x) else Invalid

-- x at place i, which is at most one past the last
abbrev pub insert_at : Kind → List Value → ℤ → Value → Value
insert_at kind xs (pos i) x = if has_places kind && (nat_le 1 i && nat_le i (length xs + 1)) then canon kind (put kind (i - 1) xs x) else Invalid
insert_at kind xs (negsuc i) x = Invalid

abbrev pub at : Kind → List Value → ℤ → Value
at kind xs (pos i) = if has_places kind && (nat_le 1 i && nat_le i (length xs)) then slice_index_or xs (i - 1) Invalid else Invalid
at kind xs (negsuc i) = Invalid

abbrev pub first : Kind → List Value → Value
first kind xs = if has_places kind then slice_index_or xs 0 Invalid else Invalid

abbrev pub last : Kind → List Value → Value
last kind xs = if has_places kind then slice_index_or xs (length xs - 1) Invalid else Invalid

-- the first place of x, in a list whose first place is n; invalid if there is none
abbrev pub place_from : ℕ → List Value → Value → Value
place_from n [] x = Invalid
place_from n (y ∷ ys) x = cond (is_eq (value_cmp x y)) (Int (pos n)) (place_from (n + 1) ys x)

abbrev pub index_of : Kind → List Value → Value → Value
index_of kind xs x = if has_places kind then place_from 1 xs x else Invalid

-- the elements from place l to place u
abbrev pub part : Kind → List Value → ℤ → ℤ → Value
part kind xs (pos l) (pos u) = if nat_le 1 l && (nat_le l u && nat_le u (length xs)) then canon kind (take (u + 1 - l) (drop (l - 1) xs)) else Invalid
part kind xs _ _ = Invalid

abbrev pub sub_sequence : Kind → List Value → ℤ → ℤ → Value
sub_sequence Sequence xs l u = part Sequence xs l u
sub_sequence _ xs l u = Invalid

abbrev pub sub_ordered_set : Kind → List Value → ℤ → ℤ → Value
sub_ordered_set OrderedSet xs l u = part OrderedSet xs l u
sub_ordered_set _ xs l u = Invalid

abbrev pub reversed : Kind → List Value → Value
reversed kind xs = if has_places kind then canon kind (reverse xs) else Invalid
