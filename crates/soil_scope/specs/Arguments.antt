-- What stands between the parentheses of a call.
use Rattle.std.specs.Prelude.{false, List, [], ◌++◌, Option}
use Rattle.std.specs.List.{cons_option, filter_map}
use Rattle.std.specs.Option.{option_map, option_map_or}
use Rattle.grammar_core.specs.Trees.{ParseTree}
use Rattle.use_nodes.specs.declared.expressions.ArgsNode.{ArgsNode}
use Rattle.use_nodes.specs.declared.expressions.ItemNode.{ItemNode}
use Rattle.use_nodes.specs.Nodes.{and_then}
use Rattle.use_nodes.specs.ExpressionNodes.{args_node, item_node}
use Rattle.use_decls.specs.Names.{LexedText}
use Rattle.use_decls.specs.Types.{type_decl}
use Rattle.ocl_syntax.specs.Expressions.{written}
use Rattle.ocl_syntax.specs.declared.tree.Argument.{Argument}
use Rattle.ocl_syntax.specs.declared.tree.Argument.TheVariants as A
use Rattle.ocl_rules.specs.Typings.{Typing}
use Rattle.ocl_rules.specs.declared.typed.Typed.{Typed}
use Rattle.ocl_shapes.specs.Combining.{each}
use Rattle.ocl_scope.specs.declared.environment.Environment.{Environment}
use Rattle.ocl_types.specs.Nodes as nodes
use Rattle.soil_scope.specs.Expressions.{type_of}
use Rattle.soil_scope.specs.Scenes.{Scene}

-- typing in the present state, as expressions see it
abbrev pub now_in : Scene → nodes.Scene
now_in s = record { model = s.model; is_post = false }

unfoldable pub argument_value : Scene → Environment → Argument → Typing Typed
argument_value s env a = nodes.argument_value (now_in s) (type_of s) env a

-- the arguments of a call of an operation of the model, in the order of the text
abbrev pub values : Scene → Environment → List Argument → Typing (List Typed)
values s env args = each (argument_value s env) [] args

-- arguments that are no part of an expression
abbrev pub item_of : LexedText → ItemNode → Argument
item_of l node = A.Item (written l node.expression) (option_map (type_decl l) node.of_type) (option_map (written l) node.start)

abbrev pub accumulator_of : LexedText → ItemNode → Argument
accumulator_of l node = A.Accumulator (written l node.expression) (option_map (type_decl l) node.of_type) (option_map (written l) node.start)

abbrev pub item_at : LexedText → ParseTree → Option Argument
item_at l t = option_map (item_of l) (item_node t)

-- what stands behind `;`
abbrev pub accumulator_at : LexedText → Option ParseTree → Option Argument
accumulator_at l t = option_map (accumulator_of l) (and_then t item_node)

-- what stands behind `|`
abbrev pub body_at : LexedText → Option ParseTree → Option Argument
body_at l t = option_map (λ e. A.Body (written l e)) t

abbrev pub arguments_of : LexedText → ArgsNode → List Argument
arguments_of l node =
    filter_map (item_at l) node.items ++ cons_option (accumulator_at l node.accumulator) (cons_option (body_at l node.body) [])

unfoldable pub written_arguments : LexedText → ParseTree → List Argument
written_arguments l t = option_map_or (arguments_of l) (args_node t) []
