-- What stands behind a dot: a property or a call, of a value or of each element of a collection.
use Rattle.std.specs.Prelude.{Bool, true, false}
use Rattle.class_decls.specs.declared.decls.Name.{Name}
use Rattle.class_model.specs.declared.object_model.ObjectModel.{ObjectModel}
use Rattle.ocl_rules.specs.declared.typed.Typed.{Typed}
use Rattle.ocl_rules.specs.Properties.{property_rule}
use Rattle.ocl_rules.specs.Typings.{Typing, then_typed}
use Rattle.ocl_scope.specs.Calls.{call_rule, is_collection}
use Rattle.ocl_scope.specs.Collected.{collected, hidden_element}
use Rattle.ocl_scope.specs.declared.environment.Environment.{Environment}
use Rattle.ocl_scope.specs.declared.given.Given.{Given}
use Rattle.ocl_shapes.specs.Combining.{◌>>=◌, pure}

-- a property of each element of a collection, or of a value
abbrev pub property_of : ObjectModel → Bool → Environment → Name → Bool → Typed → Bool → Typing Typed
property_of m is_post env name is_before source true = do
  read ← property_rule m name.place is_post is_before name.text (hidden_element source.of_type env.size)
  pure (collected source.of_type source.expr env.size read)
property_of m is_post env name is_before source false = property_rule m name.place is_post is_before name.text source

unfoldable pub property : ObjectModel → Bool → Environment → Name → Bool → Typed → Typing Typed
property m is_post env name is_before source = property_of m is_post env name is_before source (is_collection source.of_type)

-- a call by what is given, of each element of a collection or of a value
abbrev pub called : ObjectModel → Bool → Environment → Name → Bool → Typed → Bool → Given → Typing Typed
called m is_post env name is_before source true given = do
  read ← call_rule m is_post name is_before (hidden_element source.of_type env.size) given
  pure (collected source.of_type source.expr env.size read)
called m is_post env name is_before source false given = call_rule m is_post name is_before source given
