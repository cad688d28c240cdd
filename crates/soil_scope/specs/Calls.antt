-- Calls of the model's operations as statements (SOIL).
use Rattle.std.specs.Prelude.{ℕ, ◌&&◌, ◌||◌, Bool, if◌then◌else◌, List, Option, Some, None, is_some}
use Rattle.std.specs.Option.{option_and_then, option_map}
use Rattle.use_text.specs.declared.place.Place.{Place}
use Rattle.class_decls.specs.declared.decls.Name.{Name}
use Rattle.class_model.specs.declared.object_model.ObjectModel.{ObjectModel}
use Rattle.class_model.specs.declared.types.OclType.{OclType}
use Rattle.class_model.specs.Parts.{op_params}
use Rattle.ocl_core.specs.declared.expression.Expr.{Expr}
use Rattle.ocl_core.specs.declared.statement.Act.{Act}
use Rattle.ocl_core.specs.declared.statement.Act.TheVariants as act
use Rattle.ocl_syntax.specs.Places.{first_place}
use Rattle.ocl_syntax.specs.declared.tree.Argument.{Argument}
use Rattle.ocl_syntax.specs.declared.tree.Argument.TheOpen.{Written-F}
use Rattle.ocl_syntax.specs.declared.tree.Written.{Written, out-Written}
use Rattle.ocl_rules.specs.Arguments.{broken_arguments, conforms_to, exprs, unless_broken}
use Rattle.ocl_rules.specs.Properties.{operation_of_type}
use Rattle.ocl_rules.specs.Typings.{Typing, breaks_t}
use Rattle.ocl_rules.specs.ValueOperations.{value_operation}
use Rattle.ocl_rules.specs.declared.typed.Typed.{Typed}
use Rattle.ocl_scope.specs.Calls.{definedness, is_new_name, type_test}
use Rattle.ocl_scope.specs.Environments.{last_that}
use Rattle.ocl_scope.specs.Names.{type_named, variable}
use Rattle.ocl_scope.specs.declared.environment.Environment.{Environment}
use Rattle.ocl_scope.specs.declared.environment.Variable.{Variable}
use Rattle.ocl_shapes.specs.Combining.{◌>>=◌, ◌>>◌, pure}
use Rattle.ocl_shapes.specs.Extents.{class_asked}
use Rattle.ocl_shapes.specs.Shapes.{Layer, are_plain}
use Rattle.soil_scope.specs.Arguments.{values}
use Rattle.soil_scope.specs.Expressions.{type_of}
use Rattle.soil_scope.specs.Scenes.{Scene}
use Rattle.soil_scope.specs.declared.calls.Call.{Call}
use Rattle.soil_scope.specs.declared.calls.Callee.{Callee}

-- whether values of a type answer a name before the operations of the model are asked
abbrev pub is_given : ObjectModel → OclType → List ℕ → Bool
is_given m t name = is_some (definedness name) || is_some (type_test name) || is_new_name name || is_some (value_operation m t name)

-- the operation of the model that a statement calls by a name
abbrev pub operation_called : ObjectModel → OclType → List ℕ → Option ℕ
operation_called m t name = if is_given m t name then None else operation_of_type m t name

-- a call of a source that is typed
abbrev pub callee_of : Scene → Typed → Name → Option Callee
callee_of s source name = option_map (λ op. record { source = source; op = op }) (operation_called s.model source.of_type name.text)

-- a call behind a dot
abbrev pub dot_callee_by : Scene → Environment → Written → Name → Option Name → Typing (Option Callee)
dot_callee_by s env source name (Some class) = pure None
dot_callee_by s env source name None = do
  x ← type_of s env source
  pure (callee_of s x name)

abbrev pub dot_callee : Scene → Environment → Written → Name → Typing (Option Callee)
dot_callee s env source name = dot_callee_by s env source name (class_asked source name)

-- a call without a source is one of the innermost implicit variable that has the operation: of `self`
abbrev pub has_operation : ObjectModel → List ℕ → Variable → Bool
has_operation m name v = v.is_implicit && is_some (operation_called m v.of_type name)

abbrev pub implicit : ObjectModel → Environment → List ℕ → Option Variable
implicit m env name = last_that (has_operation m name) env.variables

abbrev pub bare_callee : Scene → Environment → Name → Option Callee
bare_callee s env name =
    if is_some (type_named s.model name.text) then None
    else option_and_then (λ v. callee_of s (variable v) name) (implicit s.model env name.text)

-- the receiver and the operation of the call that an expression is where it stands as a statement, if it is one
abbrev pub callee_at : Scene → Environment → Layer → Typing (Option Callee)
callee_at s env (Written-F.Dot source name is_before (Some args)) = dot_callee s env source name
callee_at s env (Written-F.Named name None is_before (Some args)) = pure (bare_callee s env name)
callee_at s env _ = pure None

unfoldable pub callee_in : Scene → Environment → Written → Typing (Option Callee)
callee_in s env e = callee_at s env (out-Written e)

-- T2 and T3 of the arguments; T9 of `@pre`, which no such call takes
abbrev pub call_by : ObjectModel → Place → Bool → Expr → ℕ → List Typed → Bool → Typing Call
call_by m place is_before receiver op args is_plain =
    if is_plain
    then unless_broken place (broken_arguments (λ p a. conforms_to m p.of_type a) (op_params m op) args)
    (if is_before then breaks_t 9 place else pure (record { receiver = receiver; op = op; args = exprs args }))
    else breaks_t 2 place

-- a call with its arguments
unfoldable pub call_with : Scene → Environment → Name → Bool → List Argument → Callee → Typing Call
call_with s env name is_before args c = do
  xs ← values s env args
  call_by s.model name.place is_before c.source.expr c.op xs (are_plain args)

abbrev pub called_at : Scene → Environment → Place → Callee → Layer → Typing Call
called_at s env place c (Written-F.Dot source name is_before (Some args)) = call_with s env name is_before args c
called_at s env place c (Written-F.Named name None is_before (Some args)) = call_with s env name is_before args c
called_at s env place c _ = breaks_t 11 place

unfoldable pub called : Scene → Environment → Written → Callee → Typing Call
called s env e c = called_at s env (first_place e) c (out-Written e)

-- an expression alone: a call, or else T11 at the statement, where it breaks no rule of its own
abbrev pub said_by : Scene → Environment → Place → Written → Option Callee → Typing Act
said_by s env place e None = type_of s env e >> breaks_t 11 place
said_by s env place e (Some c) = do
  call ← called s env e c
  pure (act.Call call.receiver call.op call.args None)

unfoldable pub said : Scene → Environment → Place → Written → Typing Act
said s env place e = do
  c ← callee_in s env e
  said_by s env place e c
