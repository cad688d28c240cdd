-- What names stand for: types, variables, and properties of implicit variables.
use Rattle.std.specs.Prelude.{ℕ, ◌&&◌, ◌||◌, Bool, if◌then◌else◌, List, [], ◌∷◌, codes, Option, Some, None, Ok, is_some}
use Rattle.std.specs.Option.{option_map, option_or}
use Rattle.use_text.specs.Pieces.{same_text}
use Rattle.ocl_values.specs.declared.value.Kind.{Kind}
use Rattle.class_decls.specs.declared.decls.Name.{Name}
use Rattle.class_decls.specs.declared.decls.TypeDecl.{TypeDecl}
use Rattle.class_model.specs.declared.object_model.ObjectModel.{ObjectModel}
use Rattle.class_model.specs.declared.types.OclType.{OclType}
use Rattle.class_model.specs.declared.types.OclType.TheVariants as T
use Rattle.class_model.specs.Features.{class_named, enum_named}
use Rattle.ocl_core.specs.declared.expression.Expr.TheVariants as E
use Rattle.ocl_rules.specs.declared.typed.Typed.{Typed}
use Rattle.ocl_rules.specs.Properties.{has_property, property_rule}
use Rattle.ocl_rules.specs.Typings.{Typing, breaks_n, breaks_t, then_typed}
use Rattle.ocl_scope.specs.declared.environment.Environment.{Environment}
use Rattle.ocl_scope.specs.declared.environment.Variable.{Variable}
use Rattle.ocl_scope.specs.Environments.{last_that, variable_named}

-- the plain types by name
abbrev pub plain_named : List ℕ → Option OclType
plain_named name =
    if same_text name (codes "Boolean") then Some T.Bool
    else (if same_text name (codes "Integer") then Some T.Int
    else (if same_text name (codes "String") then Some T.Str
    else (if same_text name (codes "OclAny") then Some T.Any
    else (if same_text name (codes "OclVoid") then Some T.Void else None))))

-- the type of a name: a plain one, an enumeration or a class
abbrev pub type_named : ObjectModel → List ℕ → Option OclType
type_named m name = option_or (plain_named name) (option_or (option_map T.Enum (enum_named m name)) (option_map T.Class (class_named m name)))

-- an implicit variable that has something under a name, without arguments
abbrev pub gives_property : ObjectModel → List ℕ → Variable → Bool
gives_property m name v = v.is_implicit && has_property m v.of_type name

-- the innermost one
abbrev pub implicit_with_property : ObjectModel → Environment → List ℕ → Option Variable
implicit_with_property m env name = last_that (gives_property m name) env.variables

-- whether a name stands for a value
abbrev pub finds_value : ObjectModel → Environment → List ℕ → Bool
finds_value m env name = is_some (variable_named env name) || is_some (implicit_with_property m env name)

-- the type of a name where one is wanted: T8 where the name stands for a value, else N1
abbrev pub type_or_fault : ObjectModel → Environment → Name → Option OclType → Typing OclType
type_or_fault m env name (Some t) = Ok t
type_or_fault m env name None = if finds_value m env name.text then breaks_t 8 name.place else breaks_n 1 name.place

abbrev pub type_wanted : ObjectModel → Environment → Name → Typing OclType
type_wanted m env name = type_or_fault m env name (type_named m name.text)

-- a type in collections of these kinds, from the outside in
abbrev pub in_collections : List Kind → OclType → OclType
in_collections [] t = t
in_collections (kind ∷ kinds) t = T.Coll kind (in_collections kinds t)

abbrev pub declared_type : ObjectModel → Environment → TypeDecl → Typing OclType
declared_type m env written = then_typed (type_wanted m env written.name) (λ t. Ok (in_collections written.kinds t))

abbrev pub declared_if : ObjectModel → Environment → Option TypeDecl → Typing (Option OclType)
declared_if m env None = Ok None
declared_if m env (Some written) = then_typed (declared_type m env written) (λ t. Ok (Some t))

-- a variable as an expression
abbrev pub variable : Variable → Typed
variable v = record { expr = E.Local v.number; of_type = v.of_type }

abbrev pub property_of_implicit : ObjectModel → Bool → Name → Bool → Option Variable → Typing Typed
property_of_implicit m is_post name is_before None = breaks_n 1 name.place
property_of_implicit m is_post name is_before (Some v) = property_rule m name.place is_post is_before name.text (variable v)

abbrev pub value_of_name : ObjectModel → Bool → Environment → Name → Bool → Option Variable → Typing Typed
value_of_name m is_post env name is_before None = property_of_implicit m is_post name is_before (implicit_with_property m env name.text)
value_of_name m is_post env name is_before (Some v) = if is_before then breaks_t 9 name.place else Ok (variable v)

-- a name without arguments: a variable, or else a property of the innermost implicit variable that has it. One that is a type's breaks T8,
-- whatever else has it
abbrev pub bare : ObjectModel → Bool → Environment → Name → Bool → Typing Typed
bare m is_post env name is_before =
    if is_some (type_named m name.text) then breaks_t 8 name.place else value_of_name m is_post env name is_before (variable_named env name.text)
