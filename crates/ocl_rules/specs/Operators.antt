-- The rules of operators: the operation that an operator stands for, by the types of its operands.
use Rattle.std.specs.Prelude.{◌&&◌, Bool, true, false, if◌then◌else◌, Option, Some, None}
use Rattle.use_text.specs.declared.place.Place.{Place}
use Rattle.ocl_values.specs.declared.integer.IntOp.{IntOp}
use Rattle.ocl_values.specs.declared.integer.IntOp.TheVariants as I
use Rattle.ocl_values.specs.declared.string.StrOp.{StrOp}
use Rattle.ocl_values.specs.declared.string.StrOp.TheVariants as S
use Rattle.ocl_values.specs.declared.value.Kind.{Kind}
use Rattle.ocl_values.specs.declared.value.Kind.TheVariants.{Set, OrderedSet, Bag, Sequence}
use Rattle.ocl_syntax.specs.declared.tree.WrittenBinary.{WrittenBinary}
use Rattle.ocl_syntax.specs.declared.tree.WrittenBinary.TheVariants as W
use Rattle.ocl_syntax.specs.declared.tree.WrittenUnary.{WrittenUnary}
use Rattle.ocl_syntax.specs.declared.tree.WrittenUnary.TheVariants.{Not, Neg}
use Rattle.class_model.specs.declared.object_model.ObjectModel.{ObjectModel}
use Rattle.class_model.specs.declared.types.OclType.{OclType}
use Rattle.class_model.specs.declared.types.OclType.TheVariants as T
use Rattle.class_model.specs.Conformance.{conforms}
use Rattle.ocl_core.specs.declared.expression.Expr.TheVariants as E
use Rattle.ocl_core.specs.declared.operators.BinaryOp.{BinaryOp}
use Rattle.ocl_core.specs.declared.operators.BinaryOp.TheVariants as B
use Rattle.ocl_core.specs.declared.operators.UnaryOp.TheVariants as U
use Rattle.ocl_rules.specs.declared.typed.Typed.{Typed}
use Rattle.ocl_rules.specs.Typings.{Typing, breaks_t, typed}

-- an operand of another type than this breaks T1 at the operator. OclVoid conforms to each type
abbrev pub unary_rule : ObjectModel → Place → WrittenUnary → Typed → Typing Typed
unary_rule m place Not a = if conforms m a.of_type T.Bool then typed (E.Unary U.Not a.expr) T.Bool else breaks_t 1 place
unary_rule m place Neg a = if conforms m a.of_type T.Int then typed (E.Unary U.Neg a.expr) T.Int else breaks_t 1 place

-- both sides are of a type
abbrev pub both : ObjectModel → OclType → OclType → OclType → Bool
both m t a b = conforms m a t && conforms m b t

abbrev pub is_kind_set : Kind → Bool
is_kind_set Set = true
is_kind_set OrderedSet = false
is_kind_set Bag = false
is_kind_set Sequence = false

-- the type of sets, or the one that conforms to each of them
abbrev pub is_set : OclType → Bool
is_set T.Void = true
is_set (T.Coll' kind shape row) = is_kind_set kind
is_set T.Any = false
is_set T.Bool = false
is_set T.Int = false
is_set T.Str = false
is_set (T.Enum e) = false
is_set (T.Class c) = false

abbrev pub logic : ObjectModel → BinaryOp → OclType → OclType → Option BinaryOp
logic m op a b = if both m T.Bool a b then Some op else None

abbrev pub arithmetic : ObjectModel → IntOp → OclType → OclType → Option BinaryOp
arithmetic m op a b = if both m T.Int a b then Some (B.Int op) else None

-- of two Integers, or else of two Strings
abbrev pub of_numbers_or_texts : ObjectModel → IntOp → StrOp → OclType → OclType → Option BinaryOp
of_numbers_or_texts m op text_op a b = if both m T.Int a b then Some (B.Int op) else (if both m T.Str a b then Some (B.Str text_op) else None)

-- of two Integers, or else of two Sets
abbrev pub difference : ObjectModel → OclType → OclType → Option BinaryOp
difference m a b = if both m T.Int a b then Some (B.Int I.Sub) else (if is_set a && is_set b then Some B.Minus else None)

-- the operation that an operator stands for between operands of these types
abbrev pub operation_of : ObjectModel → WrittenBinary → OclType → OclType → Option BinaryOp
operation_of m W.And a b = logic m B.And a b
operation_of m W.Or a b = logic m B.Or a b
operation_of m W.Xor a b = logic m B.Xor a b
operation_of m W.Implies a b = logic m B.Implies a b
operation_of m W.Eq a b = Some B.Eq
operation_of m W.Ne a b = Some B.Ne
operation_of m W.Lt a b = of_numbers_or_texts m I.Lt S.Lt a b
operation_of m W.Le a b = of_numbers_or_texts m I.Le S.Le a b
operation_of m W.Gt a b = of_numbers_or_texts m I.Gt S.Gt a b
operation_of m W.Ge a b = of_numbers_or_texts m I.Ge S.Ge a b
operation_of m W.Add a b = of_numbers_or_texts m I.Add S.Concat a b
operation_of m W.Sub a b = difference m a b
operation_of m W.Mul a b = arithmetic m I.Mul a b
operation_of m W.Div a b = arithmetic m I.Div a b
operation_of m W.Mod a b = arithmetic m I.Mod a b

-- the set that is left of another, where null counts as the other
abbrev pub set_left : OclType → OclType → OclType
set_left T.Void b = b
set_left (T.Coll' kind shape row) b = T.Coll' kind shape row
set_left T.Any b = T.Any
set_left T.Bool b = T.Bool
set_left T.Int b = T.Int
set_left T.Str b = T.Str
set_left (T.Enum e) b = T.Enum e
set_left (T.Class c) b = T.Class c

abbrev pub type_of_sum : BinaryOp → OclType → OclType → OclType
type_of_sum (B.Int i) a b = T.Int
type_of_sum (B.Str s) a b = T.Str
type_of_sum B.Minus a b = set_left a b
type_of_sum B.And a b = T.Bool
type_of_sum B.Or a b = T.Bool
type_of_sum B.Xor a b = T.Bool
type_of_sum B.Implies a b = T.Bool
type_of_sum B.Eq a b = T.Bool
type_of_sum B.Ne a b = T.Bool

-- an operator that gives a number, a String or a Set, and no truth value
abbrev pub is_sum : WrittenBinary → Bool
is_sum W.Add = true
is_sum W.Sub = true
is_sum W.Mul = true
is_sum W.Div = true
is_sum W.Mod = true
is_sum W.And = false
is_sum W.Or = false
is_sum W.Xor = false
is_sum W.Implies = false
is_sum W.Eq = false
is_sum W.Ne = false
is_sum W.Lt = false
is_sum W.Le = false
is_sum W.Gt = false
is_sum W.Ge = false

abbrev pub type_of_operation : WrittenBinary → BinaryOp → OclType → OclType → OclType
type_of_operation op made a b = if is_sum op then type_of_sum made a b else T.Bool

-- the operation, or T1 at the operator
abbrev pub binary_of : WrittenBinary → Place → Option BinaryOp → Typed → Typed → Typing Typed
binary_of op place None a b = breaks_t 1 place
binary_of op place (Some made) a b = typed (E.Binary made a.expr b.expr) (type_of_operation op made a.of_type b.of_type)

abbrev pub binary_rule : ObjectModel → Place → WrittenBinary → Typed → Typed → Typing Typed
binary_rule m place op a b = binary_of op place (operation_of m op a.of_type b.of_type) a b
