-- The kinds of the collections that iterators give (OCL 2.3.1, 11.9).
use Rattle.ocl_values.specs.declared.value.Kind.{Kind}
use Rattle.ocl_values.specs.declared.value.Kind.TheVariants.{Set, OrderedSet, Bag, Sequence}

-- the kind of what is collected of a collection
abbrev pub collected_kind : Kind → Kind
collected_kind Set = Bag
collected_kind OrderedSet = Sequence
collected_kind Bag = Bag
collected_kind Sequence = Sequence

-- the kind of a collection that is sorted
abbrev pub sorted_kind : Kind → Kind
sorted_kind Set = OrderedSet
sorted_kind OrderedSet = OrderedSet
sorted_kind Bag = Sequence
sorted_kind Sequence = Sequence
