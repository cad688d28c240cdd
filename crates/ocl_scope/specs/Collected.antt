-- What is read of each element of a collection, where a property or an operation of a collection is asked for.
use Rattle.std.specs.Prelude.{ℕ, ◌+◌, ◌-◌, None}
use Rattle.class_model.specs.declared.types.OclType.{OclType, more_of-OclType}
use Rattle.class_model.specs.declared.types.OclType.TheVariants as T
use Rattle.ocl_core.specs.declared.expression.Expr.{Expr}
use Rattle.ocl_core.specs.declared.expression.Expr.TheVariants as E
use Rattle.ocl_core.specs.declared.operators.IterOp.TheVariants.{Collect}
use Rattle.ocl_rules.specs.declared.typed.Typed.{Typed}
use Rattle.ocl_rules.specs.CollectionOperations.{innermost}
use Rattle.ocl_rules.specs.Forms.{levels}
use Rattle.ocl_core.specs.Kinds.{collected_kind}

-- the innermost element of a collection: the elements of each of its levels are values that stand in the environment from a number on
abbrev pub hidden_element : OclType → ℕ → Typed
hidden_element t number = record { expr = E.Local (number + levels t - 1); of_type = innermost t }

-- what is read of that element, collected
abbrev pub collected : OclType → Expr → ℕ → Typed → Typed
collected T.Any source number read = read
collected T.Void source number read = read
collected T.Bool source number read = read
collected T.Int source number read = read
collected T.Str source number read = read
collected (T.Enum e) source number read = read
collected (T.Class c) source number read = read
collected (T.Coll' kind shape (more_of-OclType element rest)) source number read =
    let inner = collected element (E.Local number) (number + 1) read in
    record { expr = E.Iter Collect source 1 None inner.expr; of_type = T.Coll (collected_kind kind) (innermost inner.of_type) }
