-- Size and membership, by equality; null is an element like another.
use Rattle.std.specs.Prelude.{ℕ, nat_eq, Bool, List, length}
use Rattle.use_orders.specs.Canon.{has, has_all, has_none, times}
use Rattle.ocl_values.specs.Order.{value_cmp}
use Rattle.ocl_values.specs.declared.value.Value.{Value}

abbrev pub is_empty : List Value → Bool
is_empty xs = nat_eq (length xs) 0

abbrev pub includes : List Value → Value → Bool
includes xs x = has value_cmp xs x

-- how often x is among the elements
abbrev pub count : List Value → Value → ℕ
count xs x = times value_cmp xs x

abbrev pub includes_all : List Value → List Value → Bool
includes_all xs ys = has_all value_cmp xs ys

abbrev pub excludes_all : List Value → List Value → Bool
excludes_all xs ys = has_none value_cmp xs ys
