-- The expressions in statements.
use Rattle.std.specs.Prelude.{Bool, false}
use Rattle.grammar_core.specs.Trees.{ParseTree}
use Rattle.ocl_syntax.specs.Expressions.{written}
use Rattle.ocl_syntax.specs.Places.{first_place}
use Rattle.ocl_syntax.specs.declared.tree.Written.{Written}
use Rattle.ocl_rules.specs.Typings.{Typing}
use Rattle.ocl_rules.specs.declared.typed.Typed.{Typed}
use Rattle.ocl_scope.specs.declared.environment.Environment.{Environment}
use Rattle.ocl_shapes.specs.Combining.{◌>>=◌, pure}
use Rattle.ocl_types.specs.Walk.{type_expr}
use Rattle.soil_scope.specs.declared.expressions.Placed.{Placed}
use Rattle.soil_scope.specs.Scenes.{Scene}

-- an expression that reads the present state alone
unfoldable pub type_of : Scene → Environment → Written → Typing Typed
type_of s env e = type_expr s.model false env e

-- the expression at a node, and where it begins
unfoldable pub expression_at : Scene → Bool → Environment → ParseTree → Typing Placed
expression_at s is_post env t = do
  x ← type_expr s.model is_post env (written s.lexed t)
  pure (record { typed = x; place = first_place (written s.lexed t) })
