-- The sum of integers, the greatest and the least. An element that is null makes the result invalid.
use Rattle.std.specs.Prelude.{List, [], ◌∷◌, fold, pos}
use Rattle.ocl_values.specs.Integers.{int_op_value}
use Rattle.ocl_values.specs.declared.integer.IntOp.{IntOp}
use Rattle.ocl_values.specs.declared.integer.IntOp.TheVariants.{Add, Max, Min}
use Rattle.ocl_values.specs.declared.value.Value.{Value}
use Rattle.ocl_values.specs.declared.value.Value.TheVariants.{Invalid, Int}

-- each element added to the sum of those before it, from 0; a sum out of range on the way is invalid
abbrev pub sum : List Value → Value
sum xs = fold (int_op_value Add) (Int (pos 0)) xs

-- an integer; any other value is invalid
abbrev pub integer : Value → Value
integer (Int n) = Int n
integer _ = Invalid

-- the elements joined by an operation; invalid if there are none
abbrev pub joined_by : IntOp → List Value → Value
joined_by op [] = Invalid
joined_by op (x ∷ xs) = fold (int_op_value op) (integer x) xs

abbrev pub greatest : List Value → Value
greatest xs = joined_by Max xs

abbrev pub least : List Value → Value
least xs = joined_by Min xs
