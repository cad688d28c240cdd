-- Assignments: values, where they are stored, and what is known behind them.
use Rattle.std.specs.Prelude.{ℕ, Bool, true, false, if◌then◌else◌, List, Option, Some, None}
use Rattle.std.specs.Option.{option_map_or}
use Rattle.use_text.specs.declared.place.Place.{Place}
use Rattle.grammar_core.specs.Trees.{ParseTree}
use Rattle.use_nodes.specs.StatementNodes.{new_node, rhs_node}
use Rattle.use_nodes.specs.declared.statements.NewNode.{NewNode}
use Rattle.class_decls.specs.declared.decls.BodyKind.{BodyKind}
use Rattle.class_decls.specs.declared.decls.BodyKind.TheVariants.{Bare, Query, Soil}
use Rattle.class_model.specs.Conformance.{conforms}
use Rattle.class_model.specs.Parts.{op_body_kind, op_result}
use Rattle.class_model.specs.declared.object_model.ObjectModel.{ObjectModel}
use Rattle.class_model.specs.declared.types.OclType.{OclType}
use Rattle.class_model.specs.declared.types.OclType.TheVariants as T
use Rattle.ocl_core.specs.declared.statement.Act.{Act}
use Rattle.ocl_core.specs.declared.statement.Act.TheVariants as act
use Rattle.ocl_core.specs.declared.statement.Target.{Target}
use Rattle.ocl_core.specs.declared.statement.Target.TheVariants as target
use Rattle.ocl_syntax.specs.Expressions.{written}
use Rattle.ocl_syntax.specs.Places.{first_place}
use Rattle.ocl_syntax.specs.declared.tree.Written.{Written}
use Rattle.ocl_rules.specs.Typings.{Typing, breaks_t}
use Rattle.ocl_scope.specs.declared.environment.Environment.{Environment}
use Rattle.ocl_shapes.specs.Combining.{◌>>=◌, pure}
use Rattle.soil_scope.specs.Calls.{callee_in, called}
use Rattle.soil_scope.specs.Expressions.{type_of}
use Rattle.soil_scope.specs.Scenes.{Scene, place_of_tree}
use Rattle.soil_scope.specs.Shells.{slot_of}
use Rattle.soil_scope.specs.Variables.{standing, with_local}
use Rattle.soil_scope.specs.declared.calls.Callee.{Callee}
use Rattle.soil_scope.specs.declared.variables.Role.TheVariants.{Shell}
use Rattle.soil_scope.specs.declared.variables.Variables.{Variables}
use Rattle.soil_types.specs.Aims.{aim_of, storage_of}
use Rattle.soil_types.specs.ObjectForms.{new_object}
use Rattle.soil_types.specs.declared.storing.Assigned.{Assigned}
use Rattle.soil_types.specs.declared.storing.Source.{Source}
use Rattle.soil_types.specs.declared.storing.Source.TheVariants as source
use Rattle.soil_types.specs.declared.targets.Aim.{Aim}
use Rattle.soil_types.specs.declared.targets.Storage.{Storage}
use Rattle.soil_types.specs.declared.targets.Storage.TheVariants as stores

-- the value of an expression
abbrev pub value_of : Scene → Environment → Written → Typing Assigned
value_of s env e = do
  x ← type_of s env e
  pure (record { source = source.Value x.expr; of_type = Some x.of_type; place = first_place e })

-- the result of a call statement, if its operation has one
abbrev pub call_result : Scene → Environment → Written → Callee → Typing Assigned
call_result s env e c = do
  call ← called s env e c
  pure (record { source = source.Call call; of_type = op_result s.model c.op; place = first_place e })

-- the call of a query is an expression; any other is a statement, also where its result is stored
abbrev pub is_no_query : BodyKind → Bool
is_no_query Query = false
is_no_query Bare = true
is_no_query Soil = true

abbrev pub is_statement : ObjectModel → ℕ → Bool
is_statement m op = is_no_query (op_body_kind m op)

abbrev pub value_by : Scene → Environment → Written → Option Callee → Typing Assigned
value_by s env e None = value_of s env e
value_by s env e (Some c) = if is_statement s.model c.op then call_result s env e c else value_of s env e

unfoldable pub value_of_expression : Scene → Environment → Written → Typing Assigned
value_of_expression s env e = do
  c ← callee_in s env e
  value_by s env e c

-- a new object
abbrev pub new_value : Scene → Environment → Place → NewNode → Typing Assigned
new_value s env place node = do
  made ← new_object s env node
  pure (record { source = source.New made; of_type = Some (T.Class made.class); place = place })

abbrev pub form_by : Scene → Environment → ParseTree → Option NewNode → Typing Assigned
form_by s env t None = value_of_expression s env (written s.lexed t)
form_by s env t (Some node) = new_value s env (place_of_tree s t) node

abbrev pub form_value : Scene → Environment → ParseTree → Typing Assigned
form_value s env t = form_by s env t (new_node t)

-- what stands behind `:=`
unfoldable pub right_side : Scene → Environment → ParseTree → Typing Assigned
right_side s env t = form_value s env (option_map_or (λ node. node.form) (rhs_node t) t)

-- the type that stored values have, where it is not that of the value
abbrev pub wanted_type : Storage → Option OclType
wanted_type (stores.Local number t) = Some t
wanted_type (stores.NewLocal name) = None
wanted_type (stores.Shell name t) = Some t
wanted_type (stores.RetypedShell name) = None
wanted_type (stores.Object name) = None
wanted_type (stores.Attribute e attr t) = Some t

abbrev pub fits : ObjectModel → Storage → OclType → Bool
fits m storage t = option_map_or (conforms m t) (wanted_type storage) true

-- from now on a name of the shell is a variable of a type
abbrev pub retyped : Scene → Variables → List ℕ → OclType → Variables
retyped s vs name t = option_map_or (λ slot. standing vs slot name t Shell) (slot_of s.shell name) vs

-- a local variable more, the innermost
abbrev pub new_local : Variables → List ℕ → OclType → Target × Variables
new_local vs name t = (target.Local vs.environment.size, with_local vs name t)

-- the target of an assignment, and the variables behind it
abbrev pub put : Scene → Variables → Storage → OclType → Target × Variables
put s vs (stores.Local number kept) t = (target.Local number, vs)
put s vs (stores.NewLocal name) t = new_local vs name t
put s vs (stores.Shell name kept) t = (target.Shell name kept, vs)
put s vs (stores.RetypedShell name) t = (target.Shell name t, retyped s vs name t)
put s vs (stores.Object name) t = (target.Shell name t, vs)
put s vs (stores.Attribute e attr kept) t = (target.Attr e attr, vs)

-- what an assignment does
abbrev pub act_of : Source → Target → Act
act_of (source.Value e) to = act.Assign to e
act_of (source.New made) to = act.New made.class made.name (Some to)
act_of (source.Call call) to = act.Call call.receiver call.op call.args (Some to)

abbrev pub storing : Source → Target × Variables → Act × Variables
storing from to = (act_of from to.0, to.1)

-- where a value of a type is stored, and the variables behind it, or T5 at its first token
abbrev pub target_for : Scene → Variables → Storage → OclType → Place → Typing (Target × Variables)
target_for s vs to t place = if fits s.model to t then pure (put s vs to t) else breaks_t 5 place

-- a value that has a type is stored
abbrev pub store : Scene → Variables → Storage → Source → OclType → Place → Typing (Act × Variables)
store s vs to from t place = do
  found ← target_for s vs to t place
  pure (storing from found)

-- T12 at the statement, of a call without a result
abbrev pub store_if : Scene → Variables → Place → Storage → Source → Option OclType → Place → Typing (Act × Variables)
store_if s vs place to from None value_place = breaks_t 12 place
store_if s vs place to from (Some t) value_place = store s vs to from t value_place

-- T11, then T12, both at the statement, then T5 at the value
abbrev pub assignment : Scene → Bool → Variables → Place → Aim → Assigned → Typing (Act × Variables)
assignment s is_outermost vs place named value = do
  to ← storage_of is_outermost place vs named
  store_if s vs place to value.source value.of_type value.place

-- `target := value`: the target, the value, then the rules of the assignment
unfoldable pub assign : Scene → Bool → Variables → Place → ParseTree → ParseTree → Typing (Act × Variables)
assign s is_outermost vs place t value = do
  named ← aim_of s vs.environment (written s.lexed t)
  x ← right_side s vs.environment value
  assignment s is_outermost vs place named x
