-- Operations of integers, by the integers that their operands are.
use Rattle.std.specs.Prelude.{ℤ, List, Option, Some, None, option_and_then, slice_get}
use Rattle.ocl_values.specs.Integers.{int_op_value}
use Rattle.ocl_values.specs.declared.integer.IntOp.{IntOp}
use Rattle.ocl_values.specs.declared.value.Value.{Value}
use Rattle.ocl_values.specs.declared.value.Value.TheVariants as V
use Rattle.ocl_values.specs.declared.value.Value.TheVariants.{Null, Invalid, Int}
use Rattle.ocl_core.specs.declared.expression.Expr.{Expr, out-Expr}
use Rattle.ocl_core.specs.declared.expression.Expr.TheOpen.{Expr-F}
use Rattle.ocl_core.specs.Trees.{Layer}
use Rattle.ocl_eval.specs.Evaluations.{Evaluation, ◌>>=◌, pay, pure}

-- the integer that a value is
abbrev pub integer_in : Value → Option ℤ
integer_in (Int n) = Some n
integer_in _ = None

-- a value that is null, a truth value, an integer or an object, which has size 1
abbrev pub small : Value → Option Value
small Null = Some Null
small (V.Bool b) = Some (V.Bool b)
small (Int n) = Some (Int n)
small (V.Obj o) = Some (V.Obj o)
small _ = None

-- the value that a literal is, or an entry of the environment
abbrev pub at_hand_in : List Value → Layer → Option Value
at_hand_in env (Expr-F.Literal v) = Some v
at_hand_in env (Expr-F.Local n) = slice_get env n
at_hand_in env _ = None

unfoldable pub at_hand : List Value → Expr → Option Value
at_hand env e = at_hand_in env (out-Expr e)

-- the integer that stands ready so, and the value of size 1
abbrev pub ready : List Value → Expr → Option ℤ
ready env e = option_and_then integer_in (at_hand env e)

abbrev pub small_ready : List Value → Expr → Option Value
small_ready env e = option_and_then small (at_hand env e)

-- the integer that a part gives
abbrev pub integer : (List Value → Expr → Evaluation Value) → List Value → Expr → Evaluation (Option ℤ)
integer ev env e = do
  x ← ev env e
  pure (integer_in x)

-- what an operation gives of them
abbrev pub of_integers : IntOp → Option ℤ → Option ℤ → Value
of_integers op (Some x) (Some y) = int_op_value op (Int x) (Int y)
of_integers op (Some x) None = int_op_value op (Int x) Null
of_integers op None y = Invalid

-- an operation of the integers that two operands are
unfoldable pub integers : (List Value → Expr → Evaluation Value) → List Value → IntOp → Expr → Expr → Evaluation Value
integers ev env op a b = do
  x ← integer ev env a
  y ← integer ev env b
  pay (of_integers op x y)
