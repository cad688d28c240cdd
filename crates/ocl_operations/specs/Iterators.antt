-- Iterators (OCL 2.3.1, 11.9): a row for each, of the elements and of the values that the body has for them.
use Rattle.std.specs.Prelude.{ℕ, nat_eq, Bool, true, false, not, ◌&&◌, ◌||◌, cond, if◌then◌else◌, List, [], ◌∷◌, ◌++◌, map, fold, count_by, flat_map, position, slice_get, unwrap_or}
use Rattle.std.specs.List.{list_all, list_any}
use Rattle.std.specs.Option.{option_and_then}
use Rattle.use_orders.specs.Canon.{all_differ, selected}
use Rattle.ocl_values.specs.Logic.{and_table, entry, no, or_table, yes}
use Rattle.ocl_values.specs.Order.{value_cmp}
use Rattle.ocl_values.specs.Shape.{canon, some_invalid}
use Rattle.ocl_values.specs.declared.value.Kind.{Kind}
use Rattle.ocl_values.specs.declared.value.Value.{Value}
use Rattle.ocl_values.specs.declared.value.Value.TheVariants as V
use Rattle.ocl_values.specs.declared.value.Value.TheVariants.{Null, Invalid}
use Rattle.ocl_collections.specs.Operations.{coll_op_value}
use Rattle.ocl_collections.specs.Sorting.{by_keys}
use Rattle.ocl_collections.specs.declared.op.CollOp.TheVariants.{Flatten}
use Rattle.ocl_core.specs.declared.operators.IterOp.{IterOp}
use Rattle.ocl_core.specs.declared.operators.IterOp.TheVariants.{Select, Reject, Any, One, ForAll, Exists, IsUnique, CollectNested, Collect, SortedBy, Iterate}
use Rattle.ocl_core.specs.Kinds.{collected_kind, sorted_kind}
use Rattle.ocl_operations.specs.Operators.{is_undefined}

abbrev pub is_true : Value → Bool
is_true (V.Bool b) = b
is_true _ = false

abbrev pub is_false : Value → Bool
is_false (V.Bool b) = not b
is_false _ = false

abbrev pub is_truth : Value → Bool
is_truth (V.Bool b) = true
is_truth _ = false

-- whether a value of the body ends the walk
abbrev pub ends_walk : IterOp → Value → Bool
ends_walk Any v = is_true v
ends_walk ForAll v = is_false v
ends_walk Exists v = is_true v
ends_walk _ v = false

-- what the variables are bound to in turn: each element, or with two variables each pair of elements, ordered by the first and then by the second
abbrev pub bindings : ℕ → List Value → List (List Value)
bindings n xs = if nat_eq n 2 then flat_map (λ x. map (λ y. x ∷ y ∷ []) xs) xs else map (λ x. x ∷ []) xs

-- whether an iterator may have so many variables: one, or two in `forAll` and `exists`
abbrev pub may_have : IterOp → ℕ → Bool
may_have ForAll n = nat_eq n 1 || nat_eq n 2
may_have Exists n = nat_eq n 1 || nat_eq n 2
may_have _ n = nat_eq n 1

-- whether it has a start, which `iterate` alone has
abbrev pub wants_start : IterOp → Bool
wants_start Iterate = true
wants_start _ = false

-- invalid unless all values of the body are true or false
abbrev pub if_truths : List Value → Value → Value
if_truths bs v = cond (list_all is_truth bs) v Invalid

-- the element at the first place at which the body is true, or null
abbrev pub first_true : List Value → List Value → Value
first_true xs bs = unwrap_or (option_and_then (slice_get xs) (position is_true bs)) Null

-- of the elements of a collection, and the values that the body has for the first ones of them or for all; `iterate` has a definition of its own
abbrev pub iterator_value : IterOp → Kind → List Value → List Value → Value
iterator_value Select kind xs bs = if_truths bs (canon kind (selected xs (map is_true bs)))
iterator_value Reject kind xs bs = if_truths bs (canon kind (selected xs (map is_false bs)))
iterator_value Any kind xs bs = if_truths bs (first_true xs bs)
iterator_value One kind xs bs = if_truths bs (V.Bool (nat_eq (count_by is_true bs) 1))
iterator_value ForAll kind xs bs = fold (entry and_table) yes bs
iterator_value Exists kind xs bs = fold (entry or_table) no bs
iterator_value IsUnique kind xs bs = cond (some_invalid bs) Invalid (V.Bool (all_differ value_cmp bs))
iterator_value CollectNested kind xs bs = canon (collected_kind kind) bs
iterator_value Collect kind xs bs = coll_op_value Flatten (canon (collected_kind kind) bs) []
iterator_value SortedBy kind xs bs = cond (list_any is_undefined bs) Invalid (canon (sorted_kind kind) (by_keys xs bs))
iterator_value Iterate kind xs bs = Invalid

-- whether a row looks at every element
abbrev pub takes_all : IterOp → Bool
takes_all Select = true
takes_all Reject = true
takes_all SortedBy = true
takes_all _ = false
