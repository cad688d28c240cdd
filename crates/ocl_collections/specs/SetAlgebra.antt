-- Union, intersection and differences. For kinds that have no such operation the result is invalid.
use Rattle.std.specs.Prelude.{Option, Some, None, List, ◌++◌}
use Rattle.use_orders.specs.Canon.{common_of, within, without}
use Rattle.ocl_values.specs.Order.{value_cmp}
use Rattle.ocl_values.specs.Shape.{canon}
use Rattle.ocl_values.specs.declared.value.Kind.{Kind}
use Rattle.ocl_values.specs.declared.value.Kind.TheVariants.{Set, OrderedSet, Bag, Sequence}
use Rattle.ocl_values.specs.declared.value.Value.{Value}
use Rattle.ocl_values.specs.declared.value.Value.TheVariants.{Invalid}

-- the kind of a union: a Set of two Sets, a Bag where a side is one, else the kind of both sides
abbrev pub union_kind : Kind → Kind → Option Kind
union_kind Set Set = Some Set
union_kind Set Bag = Some Bag
union_kind Bag Set = Some Bag
union_kind Bag Bag = Some Bag
union_kind OrderedSet OrderedSet = Some OrderedSet
union_kind Sequence Sequence = Some Sequence
union_kind _ _ = None

abbrev pub in_kind : Option Kind → List Value → Value
in_kind (Some kind) vs = canon kind vs
in_kind None vs = Invalid

abbrev pub union : Kind → List Value → Kind → List Value → Value
union kind xs other ys = in_kind (union_kind kind other) (xs ++ ys)

-- what is in both; in a Bag of two Bags each value as often as the Bag that has fewer of it
abbrev pub intersection : Kind → List Value → Kind → List Value → Value
intersection Set xs Set ys = canon Set (within value_cmp xs ys)
intersection Set xs Bag ys = canon Set (within value_cmp xs ys)
intersection Bag xs Set ys = canon Set (within value_cmp xs ys)
intersection Bag xs Bag ys = canon Bag (common_of value_cmp xs ys)
intersection _ xs _ ys = Invalid

-- `-`
abbrev pub difference : Kind → List Value → Kind → List Value → Value
difference Set xs Set ys = canon Set (without value_cmp xs ys)
difference _ xs _ ys = Invalid

-- what is in one side and not in the other
abbrev pub symmetric_difference : Kind → List Value → Kind → List Value → Value
symmetric_difference Set xs Set ys = canon Set (without value_cmp xs ys ++ without value_cmp ys xs)
symmetric_difference _ xs _ ys = Invalid
