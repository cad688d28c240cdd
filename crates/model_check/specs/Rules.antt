-- Rules of what is typed in a model as a whole.
use Rattle.std.specs.Prelude.{if◌then◌else◌, Option, Some, None}
use Rattle.class_model.specs.Conformance.{conforms}
use Rattle.class_model.specs.declared.object_model.ObjectModel.{ObjectModel}
use Rattle.class_model.specs.declared.types.OclType.{OclType}
use Rattle.class_model.specs.declared.types.OclType.TheVariants as T
use Rattle.ocl_core.specs.declared.expression.Expr.{Expr}
use Rattle.ocl_rules.specs.Typings.{Typing, breaks_t}
use Rattle.ocl_shapes.specs.Combining.{pure}
use Rattle.soil_scope.specs.declared.expressions.Placed.{Placed}

-- T4: an invariant or a contract is Boolean
abbrev pub condition_rule : ObjectModel → Placed → Typing Expr
condition_rule m x = if conforms m x.typed.of_type T.Bool then pure x.typed.expr else breaks_t 4 x.place

-- T5: a value conforms to the type that is declared for it
abbrev pub value_rule : ObjectModel → OclType → Placed → Typing Expr
value_rule m t x = if conforms m x.typed.of_type t then pure x.typed.expr else breaks_t 5 x.place

-- T12: an operation that is a query has a result
abbrev pub result_rule : ObjectModel → Option OclType → Placed → Typing Expr
result_rule m None x = breaks_t 12 x.place
result_rule m (Some t) x = value_rule m t x
