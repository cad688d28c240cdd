-- `openter` and `opexit`: the operation that is opened, and the result of the one that is left.
use Rattle.std.specs.Prelude.{ℕ, false, if◌then◌else◌, List, Option, Some, None}
use Rattle.use_text.specs.declared.place.Place.{Place}
use Rattle.grammar_core.specs.Trees.{ParseTree}
use Rattle.use_nodes.specs.declared.commands.EnterNode.{EnterNode}
use Rattle.use_nodes.specs.declared.commands.ExitNode.{ExitNode}
use Rattle.use_decls.specs.Names.{name_at}
use Rattle.class_decls.specs.declared.decls.Name.{Name}
use Rattle.class_model.specs.declared.object_model.ObjectModel.{ObjectModel}
use Rattle.class_model.specs.declared.types.OclType.{OclType}
use Rattle.ocl_core.specs.declared.expression.Expr.{Expr}
use Rattle.ocl_syntax.specs.declared.tree.Argument.{Argument}
use Rattle.ocl_rules.specs.Properties.{operation_of_type}
use Rattle.ocl_rules.specs.Typings.{Typing, breaks_n, breaks_t}
use Rattle.ocl_scope.specs.declared.environment.Environment.{Environment}
use Rattle.ocl_shapes.specs.Combining.{◌>>=◌, if_there, pure}
use Rattle.ocl_shapes.specs.Shapes.{are_plain}
use Rattle.soil_scope.specs.Arguments.{values, written_arguments}
use Rattle.soil_scope.specs.Calls.{call_by}
use Rattle.soil_scope.specs.Expressions.{expression_at}
use Rattle.soil_scope.specs.Scenes.{Scene, place_of_tree}
use Rattle.soil_scope.specs.declared.calls.Call.{Call}
use Rattle.soil_scope.specs.declared.expressions.Placed.{Placed}
use Rattle.soil_types.specs.ObjectForms.{is_object}
use Rattle.model_check.specs.Rules.{value_rule}

-- an operation of the model, or N2 at its name
abbrev pub operation_or : Place → Option ℕ → Typing ℕ
operation_or place None = breaks_n 2 place
operation_or place (Some op) = pure op

-- the operation of an object by its name; a receiver that is no object breaks T14 at its first token
abbrev pub operation_wanted : ObjectModel → Placed → Name → Typing ℕ
operation_wanted m x name =
    if is_object x.typed.of_type then operation_or name.place (operation_of_type m x.typed.of_type name.text) else breaks_t 14 x.place

-- the receiver, the arguments, then the operation and its rules
unfoldable pub entered_with : Scene → Environment → Placed → Name → List Argument → Typing Call
entered_with s env x name args = do
  xs ← values s env args
  op ← operation_wanted s.model x name
  call_by s.model name.place false x.typed.expr op xs (are_plain args)

unfoldable pub entered : Scene → Environment → EnterNode → Typing Call
entered s env node = do
  x ← expression_at s false env node.receiver
  entered_with s env x (name_at s.lexed node.operation) (written_arguments s.lexed node.arguments)

-- a result is given exactly where the open operation has one, or else T12 at the command's word
abbrev pub result_wanted : ObjectModel → Place → Option OclType → Option Placed → Typing (Option Expr)
result_wanted m place None None = pure None
result_wanted m place None (Some x) = breaks_t 12 place
result_wanted m place (Some t) None = breaks_t 12 place
result_wanted m place (Some t) (Some x) = do
  e ← value_rule m t x
  pure (Some e)

unfoldable pub left : Scene → Environment → Option OclType → ParseTree → ExitNode → Typing (Option Expr)
left s env result_type t node = do
  x ← if_there (expression_at s false env) node.value
  result_wanted s.model (place_of_tree s t) result_type x
