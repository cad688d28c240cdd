-- The operations of Integer, over the whole numbers, where a result out of range is invalid.
use Rattle.std.specs.Prelude.{zero, ◌^◌, nat_lt, Bool, if◌then◌else◌, ℤ, pos, negsuc, ◌+ℤ◌, ◌-ℤ◌, ◌*ℤ◌, neg_ℤ, unsigned_abs, int_div, int_lt, int_le}
use Rattle.std.specs.Int.{int_min, int_max}
use Rattle.ocl_values.specs.declared.value.Value.{Value}
use Rattle.ocl_values.specs.declared.value.Value.TheVariants as V
use Rattle.ocl_values.specs.declared.value.Value.TheVariants.{Null, Invalid, Int, Str, Enum, Obj, Coll'}
use Rattle.ocl_values.specs.declared.integer.IntOp.{IntOp}
use Rattle.ocl_values.specs.declared.integer.IntOp.TheVariants.{Add, Sub, Mul, Div, Mod, Lt, Le, Gt, Ge, Neg, Abs, Max, Min}

-- -2^127 to 2^127 - 1
abbrev pub in_range : ℤ → Bool
in_range (pos n) = nat_lt n (2 ^ 127)
in_range (negsuc n) = nat_lt n (2 ^ 127)

-- the integer, or invalid where it is out of range
abbrev pub int_value : ℤ → Value
int_value z = if in_range z then Int z else Invalid

-- a div b, truncated toward zero
abbrev pub quotient : ℤ → ℤ → Value
quotient a (pos zero) = Invalid
quotient a b = int_value (int_div a b)

-- a mod b, which is a - (a div b) * b, and invalid where a div b is
abbrev pub remainder : ℤ → ℤ → Value
remainder a (pos zero) = Invalid
remainder a b = if in_range (int_div a b) then int_value (a -ℤ int_div a b *ℤ b) else Invalid

-- an operation of one integer
abbrev pub of_one : IntOp → ℤ → Value
of_one Neg a = int_value (neg_ℤ a)
of_one Abs a = int_value (pos (unsigned_abs a))
of_one _ a = Invalid

-- an operation of two integers; one of one integer does not look at the second
abbrev pub of_two : IntOp → ℤ → ℤ → Value
of_two Add a b = int_value (a +ℤ b)
of_two Sub a b = int_value (a -ℤ b)
of_two Mul a b = int_value (a *ℤ b)
of_two Div a b = quotient a b
of_two Mod a b = remainder a b
of_two Lt a b = V.Bool (int_lt a b)
of_two Le a b = V.Bool (int_le a b)
of_two Gt a b = V.Bool (int_lt b a)
of_two Ge a b = V.Bool (int_le b a)
of_two Neg a b = of_one Neg a
of_two Abs a b = of_one Abs a
of_two Max a b = int_value (int_max a b)
of_two Min a b = int_value (int_min a b)

-- an operation of an integer and what stands second
abbrev pub of_integer : IntOp → ℤ → Value → Value
of_integer op a (Int b) = of_two op a b
of_integer op a _ = of_one op a

-- an operation of Integer; what is no integer makes it invalid, as null and invalid do
abbrev pub int_op_value : IntOp → Value → Value → Value
int_op_value op (Int a) b = of_integer op a b
int_op_value op _ b = Invalid
