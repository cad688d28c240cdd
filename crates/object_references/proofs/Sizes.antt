-- A collection is no larger than the values that it is made of.
use Rattle.std.proofs.Common.{◌≡◌, ℕ, ◌+◌, ◌≤◌, cond, fold, Bool, true, false, List, [], ◌∷◌, ◌++◌, Less, Equal, Greater, Ordering, refl, arith}
use Rattle.std.specs.Ordering.{is_lt, match_ordering}
use Rattle.std.proofs.lemmas.Bool.{cond_both}
use Rattle.use_orders.specs.Canon.{add_new, bag_of, firsts_of, has, insert_in, insert_new, set_of}
use Rattle.ocl_values.specs.Order.{value_cmp}
use Rattle.ocl_values.specs.declared.value.Kind.{Kind}
use Rattle.ocl_values.specs.declared.value.Kind.TheVariants.{Set, OrderedSet, Bag, Sequence}
use Rattle.ocl_values.specs.declared.value.Value.{Value}
use Rattle.ocl_values.specs.declared.value.Value.TheVariants.{Coll, Invalid}
use Rattle.ocl_values.specs.Shape.{are_unfit, canon, canonical, size_of, sizes_of}
use Rattle.ocl_values.proofs.Rows.{size_of-Coll}

one_of_two : (b : Bool) (xs ys : List Value) (n : ℕ) → sizes_of xs ≤ n → sizes_of ys ≤ n → sizes_of (cond b xs ys) ≤ n
one_of_two true xs ys n first second = first
one_of_two false xs ys n first second = second

one_of_three : (r : Ordering) (xs ys zs : List Value) (n : ℕ) → sizes_of xs ≤ n → sizes_of ys ≤ n → sizes_of zs ≤ n → sizes_of (match_ordering r xs ys zs) ≤ n
one_of_three Less xs ys zs n first second third = first
one_of_three Equal xs ys zs n first second third = second
one_of_three Greater xs ys zs n first second third = third

put_in : (vs : List Value) (v : Value) → sizes_of (insert_in value_cmp vs v) ≤ size_of v + sizes_of vs
put_in [] v = omega arith
put_in (w ∷ ws) v =
    let rest = put_in ws v in
    one_of_two (is_lt (value_cmp w v)) (w ∷ insert_in value_cmp ws v) (v ∷ w ∷ ws) (size_of v + (size_of w + sizes_of ws)) (omega (arith, rest)) (omega arith)

put_new : (vs : List Value) (v : Value) → sizes_of (insert_new value_cmp vs v) ≤ size_of v + sizes_of vs
put_new [] v = omega arith
put_new (w ∷ ws) v =
    let rest = put_new ws v in
    one_of_three (value_cmp v w) (v ∷ w ∷ ws) (w ∷ ws) (w ∷ insert_new value_cmp ws v) (size_of v + (size_of w + sizes_of ws)) (omega arith) (omega arith)
    (omega (arith, rest))

bag_size : (vs : List Value) → sizes_of (bag_of value_cmp vs) ≤ sizes_of vs
bag_size [] = omega arith
bag_size (v ∷ vs) =
    let one = put_in (bag_of value_cmp vs) v in
    let rest = bag_size vs in
    omega (arith, one, rest)

set_size : (vs : List Value) → sizes_of (set_of value_cmp vs) ≤ sizes_of vs
set_size [] = omega arith
set_size (v ∷ vs) =
    let one = put_new (set_of value_cmp vs) v in
    let rest = set_size vs in
    omega (arith, one, rest)

at_end : (vs : List Value) (v : Value) → sizes_of (vs ++ v ∷ []) ≤ sizes_of vs + size_of v
at_end [] v = omega arith
at_end (w ∷ ws) v = let rest = at_end ws v in omega (arith, rest)

firsts_onto : (seen vs : List Value) → sizes_of (fold (add_new value_cmp) seen vs) ≤ sizes_of seen + sizes_of vs
firsts_onto seen [] = omega arith
firsts_onto seen (v ∷ vs) =
    let end = at_end seen v in
    let one : sizes_of (add_new value_cmp seen v) ≤ sizes_of seen + size_of v =
    one_of_two (has value_cmp seen v) seen (seen ++ v ∷ []) (sizes_of seen + size_of v) (omega arith) end in
    let rest = firsts_onto (add_new value_cmp seen v) vs in
    omega (arith, one, rest)

canonical_size : (kind : Kind) (vs : List Value) → sizes_of (canonical kind vs) ≤ sizes_of vs
canonical_size Set vs = set_size vs
canonical_size OrderedSet vs = let all = firsts_onto [] vs in omega (arith, all)
canonical_size Bag vs = bag_size vs
canonical_size Sequence vs = omega arith

pub canon_size : (kind : Kind) (vs : List Value) → size_of (canon kind vs) ≤ 1 + sizes_of vs
canon_size kind vs =
    cond_both (are_unfit vs) Invalid (Coll kind (canonical kind vs)) (λ v. size_of v ≤ 1 + sizes_of vs)
    (λ _. omega arith)
    (λ _.
    let whole = size_of-Coll kind (canonical kind vs) in
    let kept = canonical_size kind vs in
    omega (arith, whole, kept))
