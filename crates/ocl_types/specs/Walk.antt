-- The type of an expression (OCL 2.3.1, clause 8).
use Rattle.std.specs.Prelude.{ℕ, zero, suc, Bool}
use Rattle.class_model.specs.declared.object_model.ObjectModel.{ObjectModel}
use Rattle.ocl_syntax.specs.declared.tree.Written.{Written, out-Written}
use Rattle.ocl_syntax.specs.Places.{place}
use Rattle.ocl_rules.specs.declared.typed.Typed.{Typed}
use Rattle.ocl_rules.specs.Forms.{level_rule}
use Rattle.ocl_rules.specs.Typings.{Typing, breaks_t, then_typed}
use Rattle.ocl_scope.specs.declared.environment.Environment.{Environment}
use Rattle.ocl_shapes.specs.Combining.{◌>>=◌}
use Rattle.ocl_types.specs.Nodes.{Scene, node}

-- a node, unless its type nests too many collections
unfoldable pub leveled : Scene → (Environment → Written → Typing Typed) → Environment → Written → Typing Typed
leveled s type_of env e = do
  x ← node s type_of env (out-Written e)
  level_rule (place e) x

-- where so many written nodes may nest; more break T16
unfoldable pub type_in : Scene → ℕ → Environment → Written → Typing Typed
type_in s zero env e = breaks_t 16 (place e)
type_in s (suc n) env e = leveled s (type_in s n) env e

-- parentheses counted too: 256 levels, and 200 parentheses at most
abbrev pub max_nesting : ℕ
max_nesting = 512

abbrev pub type_expr : ObjectModel → Bool → Environment → Written → Typing Typed
type_expr m is_post env e = type_in (record { model = m; is_post = is_post }) max_nesting env e
