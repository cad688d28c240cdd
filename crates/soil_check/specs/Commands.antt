-- Commands, checked: each form's names and types.
use Rattle.std.specs.Prelude.{ℕ, Bool, false, if◌then◌else◌, List, Option, Some, None, is_some}
use Rattle.std.specs.Option.{option_map_or}
use Rattle.use_text.specs.declared.token.Token.{Token}
use Rattle.use_text.specs.declared.token.TokenKind.TheVariants as k
use Rattle.grammar_core.specs.Trees.{ParseTree}
use Rattle.use_syntax.specs.declared.rule.Rule.TheVariants as r
use Rattle.use_nodes.specs.declared.commands.EnterNode.{EnterNode}
use Rattle.use_nodes.specs.declared.commands.ExitNode.{ExitNode}
use Rattle.use_nodes.specs.declared.commands.QueryNode.{QueryNode}
use Rattle.use_nodes.specs.Nodes.{and_then, is_rule, is_token}
use Rattle.use_nodes.specs.CommandNodes.{check_node, command_node, enter_node, execute_node, exit_node, info_node, query_node, view_node}
use Rattle.use_nodes.specs.StatementNodes.{block_node}
use Rattle.use_decls.specs.Names.{LexedText}
use Rattle.class_model.specs.declared.object_model.ObjectModel.{ObjectModel}
use Rattle.class_model.specs.declared.types.OclType.{OclType}
use Rattle.ocl_core.specs.declared.program.ProgramParts.{ProgramParts}
use Rattle.ocl_rules.specs.Typings.{Typing}
use Rattle.ocl_rules.specs.declared.typed.Typed.{Typed}
use Rattle.ocl_shapes.specs.Combining.{◌>>=◌, pure}
use Rattle.soil_scope.specs.Expressions.{expression_at}
use Rattle.soil_scope.specs.Scenes.{Scene, place_of_tree}
use Rattle.soil_scope.specs.declared.variables.Variables.{Variables}
use Rattle.soil_types.specs.Walk.{command_statements}
use Rattle.soil_check.specs.declared.checked.Checked.{Checked}
use Rattle.soil_check.specs.declared.checked.Checked.TheVariants as c
use Rattle.soil_check.specs.declared.scope.Bindings.{Bindings}
use Rattle.soil_check.specs.Scopes.{Known}
use Rattle.soil_check.specs.Shell.{shell_names}
use Rattle.soil_check.specs.Seen.{result_of, seen}
use Rattle.soil_check.specs.Calls.{entered, left}
use Rattle.soil_check.specs.Topics.{check, info, view}

-- the first of these that there is
abbrev pub or_else : {A : Type 0} → Option A → (A → Typing Checked) → Typing Checked → Typing Checked
or_else None f other = other
or_else (Some a) f other = f a

-- `? e`, and `?? e`
abbrev pub asked : Bool → Typed → List (List ℕ) → Checked
asked is_explained x names = if is_explained then c.Explain x.expr x.of_type names else c.Query x.expr x.of_type names

unfoldable pub query : Scene → Variables → QueryNode → Typing Checked
query s vs node = do
  x ← expression_at s false vs.environment node.expression
  pure (asked (is_some node.explained) x.typed s.shell)

unfoldable pub statements : Scene → Variables → ParseTree → Typing Checked
statements s vs t = do
  body ← command_statements s vs t
  pure (c.Statements body s.shell)

unfoldable pub enter : Scene → Variables → EnterNode → Typing Checked
enter s vs node = do
  call ← entered s vs.environment node
  pure (c.Enter call.receiver call.op call.args s.shell)

unfoldable pub exit : Scene → Variables → Option OclType → ParseTree → ExitNode → Typing Checked
exit s vs result_type t node = do
  value ← left s vs.environment result_type t node
  pure (c.Exit value s.shell)

-- the commands of one word
abbrev pub word : ParseTree → Checked
word t =
    if is_token k.Undo t then c.Undo
    else (if is_token k.Redo t then c.Redo
    else (if is_token k.Reset t then c.Reset else c.Quit))

-- `check`, `info`, `view` and the commands of one word
unfoldable pub topic : Scene → ParseTree → Typing Checked
topic s t =
    or_else (check_node t) (check s.lexed)
    (or_else (info_node t) (info s)
    (or_else (view_node t) (view s.lexed)
    (pure (word t))))

-- a form
unfoldable pub form : Scene → Variables → Option OclType → ParseTree → Typing Checked
form s vs result_type t =
    or_else (block_node t) (λ _. statements s vs t)
    (or_else (enter_node t) (enter s vs)
    (or_else (exit_node t) (exit s vs result_type t)
    (or_else (query_node t) (query s vs)
    (topic s t))))

-- the form of a command, if it has one, and the same without `!`
abbrev pub form_of : ParseTree → Option ParseTree
form_of t = and_then (command_node t) (λ node. node.form)

abbrev pub form_at : ParseTree → ParseTree
form_at t = option_map_or (λ node. node.form) (execute_node t) t

-- the model, the text and the names that it takes from the shell
abbrev pub scene_of : ObjectModel → LexedText → List (List ℕ) → Scene
scene_of m l names = record { model = m; lexed = l; shell = names }

-- a command among the names that it takes from the shell
abbrev pub form_among : Scene → (List ℕ → Option Known) → Option Bindings → ParseTree → Typing Checked
form_among s known frame t = do
  vs ← seen known s.shell frame (place_of_tree s t)
  form s vs (result_of frame) t

unfoldable pub form_in : ObjectModel → (List ℕ → Option Known) → Option Bindings → LexedText → ParseTree → Typing Checked
form_in m known frame l t = form_among (scene_of m l (shell_names known (is_rule r.Block t) l)) known frame t

-- a command without a form does nothing
abbrev pub command_of : ObjectModel → (List ℕ → Option Known) → Option Bindings → LexedText → ParseTree → Typing Checked
command_of m known frame l t =
    or_else (form_of t) (λ t. form_in m known frame l (form_at t)) (pure c.Empty)

-- a command that was read as a tree of these tokens of a text
abbrev pub command_in : ProgramParts → (List ℕ → Option Known) → Option Bindings → List ℕ → List Token → ParseTree → Typing Checked
command_in p known frame text ts t = command_of p.model known frame (record { text = text; tokens = ts }) t
