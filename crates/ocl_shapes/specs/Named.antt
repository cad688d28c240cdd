-- Names alone, with what stands behind them, and names where a type is wanted.
use Rattle.std.specs.Prelude.{Bool, if◌then◌else◌, Option, Some, None, is_some}
use Rattle.class_decls.specs.declared.decls.Name.{Name}
use Rattle.class_model.specs.declared.object_model.ObjectModel.{ObjectModel}
use Rattle.class_model.specs.declared.types.OclType.{OclType}
use Rattle.ocl_rules.specs.declared.typed.Typed.{Typed}
use Rattle.ocl_rules.specs.Typings.{Typing, breaks_n, breaks_t}
use Rattle.ocl_scope.specs.Calls.{implicit_call}
use Rattle.ocl_scope.specs.Literals.{qualified}
use Rattle.ocl_scope.specs.Names.{bare, finds_value, type_named}
use Rattle.ocl_scope.specs.declared.environment.Environment.{Environment}
use Rattle.ocl_scope.specs.declared.given.Given.{Given}
use Rattle.ocl_scope.specs.declared.given.TypeArgument.{TypeArgument}
use Rattle.ocl_scope.specs.declared.given.TypeArgument.TheVariants as A
use Rattle.ocl_shapes.specs.Combining.{pure}

-- a name where a type is wanted
abbrev pub type_found : ObjectModel → Environment → Name → Option OclType → Typing TypeArgument
type_found m env name (Some t) = pure (A.OfType t)
type_found m env name None = if finds_value m env name.text then pure (A.NoType name.place) else breaks_n 1 name.place

-- a name with what stands behind it: a literal, nothing, or arguments
abbrev pub named_by : ObjectModel → Bool → Environment → Name → Bool → Option Name → Option Given → Typing Typed
named_by m is_post env name is_before (Some literal) given = qualified m env name literal is_before (is_some given)
named_by m is_post env name is_before None None = bare m is_post env name is_before
named_by m is_post env name is_before None (Some given) =
    if is_some (type_named m name.text) then breaks_t 8 name.place else implicit_call m is_post env name is_before given
