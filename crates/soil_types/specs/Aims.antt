-- What assignments name, and where they store.
use Rattle.std.specs.Prelude.{ℕ, Bool, true, false, if◌then◌else◌, List, codes, Option, Some, None, is_some}
use Rattle.use_text.specs.declared.place.Place.{Place}
use Rattle.class_decls.specs.Texts.{same_text}
use Rattle.class_decls.specs.declared.decls.Name.{Name}
use Rattle.class_model.specs.declared.object_model.ObjectModel.{ObjectModel}
use Rattle.class_model.specs.declared.types.OclType.{OclType}
use Rattle.ocl_core.specs.Trees.{Layer}
use Rattle.ocl_core.specs.declared.expression.Expr.{out-Expr}
use Rattle.ocl_core.specs.declared.expression.Expr.TheOpen.{Expr-F}
use Rattle.ocl_syntax.specs.declared.tree.Argument.TheOpen.{Written-F}
use Rattle.ocl_syntax.specs.declared.tree.Written.{Written, out-Written}
use Rattle.ocl_rules.specs.Typings.{Typing, breaks_t}
use Rattle.ocl_rules.specs.declared.typed.Typed.{Typed}
use Rattle.ocl_scope.specs.Environments.{variable_named}
use Rattle.ocl_scope.specs.Names.{type_named}
use Rattle.ocl_scope.specs.declared.environment.Environment.{Environment}
use Rattle.ocl_scope.specs.declared.environment.Variable.{Variable}
use Rattle.ocl_shapes.specs.Combining.{◌>>=◌, ◌>>◌, pure}
use Rattle.ocl_shapes.specs.Shapes as shapes
use Rattle.soil_scope.specs.Expressions.{type_of}
use Rattle.soil_scope.specs.Scenes.{Scene}
use Rattle.soil_scope.specs.Variables.{role_of}
use Rattle.soil_scope.specs.declared.variables.Role.{Role}
use Rattle.soil_scope.specs.declared.variables.Role.TheVariants.{Fixed, Free, Local, Object, Shell}
use Rattle.soil_scope.specs.declared.variables.Variables.{Variables}
use Rattle.soil_types.specs.declared.targets.Aim.{Aim}
use Rattle.soil_types.specs.declared.targets.Aim.TheVariants as aims
use Rattle.soil_types.specs.declared.targets.Storage.{Storage}
use Rattle.soil_types.specs.declared.targets.Storage.TheVariants as stores

-- the stored attribute that an expression reads
abbrev pub attribute_at : OclType → Layer → Aim
attribute_at t (Expr-F.Attr source attr when) = aims.Attribute source attr t
attribute_at t _ = aims.Nothing

abbrev pub attribute_read : Typed → Aim
attribute_read x = attribute_at x.of_type (out-Expr x.expr)

-- a name alone is always a variable; one that is a type's breaks T8
abbrev pub variable_aim : ObjectModel → Name → Typing Aim
variable_aim m name = if is_some (type_named m name.text) then breaks_t 8 name.place else pure (aims.Variable name.text)

-- what stands before `:=`: a name alone, or a stored attribute. Anything else is typed, and cannot be assigned
abbrev pub aim_at : Scene → Environment → Written → shapes.Layer → Typing Aim
aim_at s env e (Written-F.Named name None false None) = variable_aim s.model name
aim_at s env e (Written-F.Dot source name is_before None) = do
  x ← type_of s env e
  pure (attribute_read x)
aim_at s env e _ = type_of s env e >> pure aims.Nothing

unfoldable pub aim_of : Scene → Environment → Written → Typing Aim
aim_of s env e = aim_at s env e (out-Written e)

-- a name that stands for no variable yet: in the outermost block of a command it becomes one of the shell, elsewhere a local one
abbrev pub first_storage : Bool → List ℕ → Storage
first_storage is_outermost name = if is_outermost then stores.RetypedShell name else stores.NewLocal name

-- a variable of the shell: only the outermost block gives it another type
abbrev pub shell_storage : Bool → List ℕ → OclType → Storage
shell_storage is_outermost name t = if is_outermost then stores.RetypedShell name else stores.Shell name t

-- a name that stands for something. To `self`, parameters and the variables of `for` nothing is assigned: T11
abbrev pub storage_by_role : Bool → Place → List ℕ → Role → Variable → Typing Storage
storage_by_role is_outermost place name Free v = pure (first_storage is_outermost name)
storage_by_role is_outermost place name Object v = pure (stores.Object name)
storage_by_role is_outermost place name Shell v = pure (shell_storage is_outermost name v.of_type)
storage_by_role is_outermost place name Local v = pure (stores.Local v.number v.of_type)
storage_by_role is_outermost place name Fixed v = breaks_t 11 place

abbrev pub storage_found : Bool → Place → Variables → List ℕ → Option Variable → Typing Storage
storage_found is_outermost place vs name None = pure (first_storage is_outermost name)
storage_found is_outermost place vs name (Some v) = storage_by_role is_outermost place name (role_of vs v.number) v

abbrev pub storage_of_name : Bool → Place → Variables → List ℕ → Typing Storage
storage_of_name is_outermost place vs name =
    if same_text name (codes "self") then breaks_t 11 place else storage_found is_outermost place vs name (variable_named vs.environment name)

-- where a value is stored
abbrev pub storage_of : Bool → Place → Variables → Aim → Typing Storage
storage_of is_outermost place vs aims.Nothing = breaks_t 11 place
storage_of is_outermost place vs (aims.Variable name) = storage_of_name is_outermost place vs name
storage_of is_outermost place vs (aims.Attribute source attr t) = pure (stores.Attribute source attr t)
