-- The statements of blocks, one after another (SOIL).
use Rattle.std.specs.Prelude.{ℕ, zero, suc, Bool, true, false, List, []}
use Rattle.std.specs.Option.{option_map_or}
use Rattle.grammar_core.specs.Trees.{ParseTree}
use Rattle.use_nodes.specs.StatementNodes.{block_node}
use Rattle.ocl_core.specs.declared.statement.Stmt.{Stmt}
use Rattle.ocl_rules.specs.Typings.{Typing, breaks_t}
use Rattle.ocl_shapes.specs.Combining.{◌>>=◌, pure}
use Rattle.soil_scope.specs.Scenes.{Scene, each_after, place_of_tree}
use Rattle.soil_scope.specs.Variables.{left_to}
use Rattle.soil_scope.specs.declared.variables.Variables.{Variables}
use Rattle.soil_types.specs.Statements.{statement}

abbrev pub statements_of : ParseTree → List ParseTree
statements_of t = option_map_or (λ node. node.statements) (block_node t) []

-- the statements of a block, by what types the blocks in it, and the variables at its end
unfoldable pub statements : Scene → (Variables → ParseTree → Typing (List Stmt × Variables)) → Bool → Variables → ParseTree → Typing (List Stmt × Variables)
statements s block_of is_outermost vs t = each_after (statement s block_of is_outermost) [] vs (statements_of t)

-- a block in which so many blocks may nest; more break T16. What it adds is taken back at its end
unfoldable pub block_in : Scene → ℕ → Variables → ParseTree → Typing (List Stmt × Variables)
block_in s zero vs t = breaks_t 16 (place_of_tree s t)
block_in s (suc n) vs t = do
  done ← statements s (block_in s n) false vs t
  pure (done.0, left_to vs done.1)

-- how many blocks may nest; no text that is read nests more, since at most 200 statements do
abbrev pub max_nesting : ℕ
max_nesting = 256

abbrev pub checked : Scene → Bool → Variables → ParseTree → Typing (List Stmt)
checked s is_outermost vs t = do
  done ← statements s (block_in s max_nesting) is_outermost vs t
  pure done.0

-- the statements of a command: its block is the outermost one
abbrev pub command_statements : Scene → Variables → ParseTree → Typing (List Stmt)
command_statements s vs t = checked s true vs t

-- the statements of an operation's body
abbrev pub body_statements : Scene → Variables → ParseTree → Typing (List Stmt)
body_statements s vs t = checked s false vs t
