-- The table of operations. A source that is no collection, an argument that is invalid, and arguments of another number or kind make the result invalid.
use Rattle.std.specs.Prelude.{not, cond, List, [], ◌∷◌, length, pos}
use Rattle.ocl_values.specs.Shape.{canon, some_invalid}
use Rattle.ocl_values.specs.declared.value.Kind.{Kind}
use Rattle.ocl_values.specs.declared.value.Kind.TheVariants as K
use Rattle.ocl_values.specs.declared.value.Value.{Value}
use Rattle.ocl_values.specs.declared.value.Value.TheVariants as V
use Rattle.ocl_values.specs.declared.value.Value.TheVariants.{Invalid, Int}
use Rattle.ocl_collections.specs.declared.op.CollOp.{CollOp}
use Rattle.ocl_collections.specs.declared.op.CollOp.TheVariants.{Size, IsEmpty, NotEmpty, Includes, Excludes, Count, IncludesAll, ExcludesAll, Including}
use Rattle.ocl_collections.specs.declared.op.CollOp.TheVariants.{Excluding, Union, Intersection, Minus, SymmetricDifference, Append, Prepend, InsertAt, At}
use Rattle.ocl_collections.specs.declared.op.CollOp.TheVariants.{First, Last, IndexOf, SubSequence, SubOrderedSet, Reverse, Sum, Max, Min, AsSet, AsBag}
use Rattle.ocl_collections.specs.declared.op.CollOp.TheVariants.{AsSequence, AsOrderedSet, Flatten}
use Rattle.ocl_collections.specs.Arguments.{with_integer, with_collection}
use Rattle.ocl_collections.specs.Membership.{is_empty, includes, count, includes_all, excludes_all}
use Rattle.ocl_collections.specs.Adding.{including, excluding}
use Rattle.ocl_collections.specs.SetAlgebra.{union, intersection, difference, symmetric_difference}
use Rattle.ocl_collections.specs.Positions.{append, prepend, insert_at, at, first, last, index_of, sub_sequence, sub_ordered_set, reversed}
use Rattle.ocl_collections.specs.Sums.{sum, greatest, least}
use Rattle.ocl_collections.specs.Flattening.{flattened}

-- the operations without an argument
abbrev pub of_none : CollOp → Kind → List Value → Value
of_none Size kind xs = Int (pos (length xs))
of_none IsEmpty kind xs = V.Bool (is_empty xs)
of_none NotEmpty kind xs = V.Bool (not (is_empty xs))
of_none First kind xs = first kind xs
of_none Last kind xs = last kind xs
of_none Reverse kind xs = reversed kind xs
of_none Sum kind xs = sum xs
of_none Max kind xs = greatest xs
of_none Min kind xs = least xs
of_none AsSet kind xs = canon K.Set xs
of_none AsBag kind xs = canon K.Bag xs
of_none AsSequence kind xs = canon K.Sequence xs
of_none AsOrderedSet kind xs = canon K.OrderedSet xs
of_none Flatten kind xs = flattened kind xs
of_none _ kind xs = Invalid

-- the operations of two collections
abbrev pub of_pair : CollOp → Kind → List Value → Kind → List Value → Value
of_pair IncludesAll kind xs other ys = V.Bool (includes_all xs ys)
of_pair ExcludesAll kind xs other ys = V.Bool (excludes_all xs ys)
of_pair Union kind xs other ys = union kind xs other ys
of_pair Intersection kind xs other ys = intersection kind xs other ys
of_pair Minus kind xs other ys = difference kind xs other ys
of_pair SymmetricDifference kind xs other ys = symmetric_difference kind xs other ys
of_pair _ kind xs other ys = Invalid

-- the operations of one argument, which is an element, a place or else a collection
abbrev pub of_one : CollOp → Kind → List Value → Value → Value
of_one Includes kind xs x = V.Bool (includes xs x)
of_one Excludes kind xs x = V.Bool (not (includes xs x))
of_one Count kind xs x = Int (pos (count xs x))
of_one Including kind xs x = including kind xs x
of_one Excluding kind xs x = excluding kind xs x
of_one Append kind xs x = append kind xs x
of_one Prepend kind xs x = prepend kind xs x
of_one At kind xs i = with_integer i (at kind xs)
of_one IndexOf kind xs x = index_of kind xs x
of_one op kind xs x = with_collection x (of_pair op kind xs)

-- the operations of two arguments
abbrev pub of_two : CollOp → Kind → List Value → Value → Value → Value
of_two InsertAt kind xs i x = with_integer i (λ n. insert_at kind xs n x)
of_two SubSequence kind xs l u = with_integer l (λ m. with_integer u (sub_sequence kind xs m))
of_two SubOrderedSet kind xs l u = with_integer l (λ m. with_integer u (sub_ordered_set kind xs m))
of_two _ kind xs l u = Invalid

-- an operation of a collection of a kind, by its arguments
abbrev pub of_collection : CollOp → List Value → Kind → List Value → Value
of_collection op [] kind xs = of_none op kind xs
of_collection op (x ∷ []) kind xs = of_one op kind xs x
of_collection op (x ∷ y ∷ []) kind xs = of_two op kind xs x y
of_collection op (x ∷ y ∷ z ∷ rest) kind xs = Invalid

-- an operation of a value
abbrev pub coll_op_value : CollOp → Value → List Value → Value
coll_op_value op source args = cond (some_invalid args) Invalid (with_collection source (of_collection op args))
