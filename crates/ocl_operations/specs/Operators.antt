-- What operators give of the values of their operands, and what operations of values that are no collections give.
use Rattle.std.specs.Prelude.{Bool, true, false, not, List, [], ◌∷◌, Option, Some, None}
use Rattle.ocl_values.specs.declared.value.Value.{Value}
use Rattle.ocl_values.specs.declared.value.Value.TheVariants as V
use Rattle.ocl_values.specs.declared.value.Value.TheVariants.{Null, Invalid}
use Rattle.ocl_values.specs.declared.integer.IntOp.{IntOp}
use Rattle.ocl_values.specs.declared.integer.IntOp.TheVariants as I
use Rattle.ocl_values.specs.Integers.{int_op_value}
use Rattle.ocl_values.specs.Logic.{and_table, entry, implies_table, in_row, is_invalid, no, not_row, or_table, same_value, truth_of, xor_table, yes}
use Rattle.ocl_values.specs.Strings.{str_op_value, to_string_value}
use Rattle.ocl_collections.specs.declared.op.CollOp.TheVariants as C
use Rattle.ocl_collections.specs.Operations.{coll_op_value}
use Rattle.ocl_core.specs.declared.operators.BinaryOp.{BinaryOp}
use Rattle.ocl_core.specs.declared.operators.BinaryOp.TheVariants.{And, Or, Xor, Implies, Eq, Ne, Int, Str, Minus}
use Rattle.ocl_core.specs.declared.operators.PlainOp.{PlainOp}
use Rattle.ocl_core.specs.declared.operators.PlainOp.TheVariants as P
use Rattle.ocl_core.specs.declared.operators.UnaryOp.{UnaryOp}
use Rattle.ocl_core.specs.declared.operators.UnaryOp.TheVariants.{Not, Neg}

-- `not`
abbrev pub negated : Value → Value
negated a = in_row not_row (truth_of a)

abbrev pub unary_value : UnaryOp → Value → Value
unary_value Not a = negated a
unary_value Neg a = int_op_value I.Neg a Null

-- what the left operand alone decides: the right one is then not evaluated
abbrev pub decided : BinaryOp → Value → Option Value
decided And (V.Bool false) = Some no
decided Or (V.Bool true) = Some yes
decided Implies (V.Bool false) = Some yes
decided _ _ = None

abbrev pub binary_value : BinaryOp → Value → Value → Value
binary_value And a b = entry and_table a b
binary_value Or a b = entry or_table a b
binary_value Xor a b = entry xor_table a b
binary_value Implies a b = entry implies_table a b
binary_value Eq a b = same_value a b
binary_value Ne a b = negated (same_value a b)
binary_value (Int op) a b = int_op_value op a b
binary_value (Str op) a b = str_op_value op a (b ∷ [])
binary_value Minus a b = coll_op_value C.Minus a (b ∷ [])

-- null or invalid
abbrev pub is_undefined : Value → Bool
is_undefined Null = true
is_undefined v = is_invalid v

-- an operation of an integer and at most one argument
abbrev pub integer_value : IntOp → Value → List Value → Value
integer_value op a [] = int_op_value op a Null
integer_value op a (b ∷ []) = int_op_value op a b
integer_value op a (b ∷ c ∷ rest) = Invalid

-- what takes no argument
abbrev pub alone : List Value → Value → Value
alone [] v = v
alone (x ∷ xs) v = Invalid

-- an operation of a value and its arguments
abbrev pub plain_value : PlainOp → Value → List Value → Value
plain_value (P.Int op) a args = integer_value op a args
plain_value (P.Str op) a args = str_op_value op a args
plain_value P.ToText a args = alone args (to_string_value a)
plain_value P.IsUndefined a args = alone args (V.Bool (is_undefined a))
plain_value P.IsDefined a args = alone args (V.Bool (not (is_undefined a)))
plain_value P.IsInvalid a args = alone args (V.Bool (is_invalid a))
