-- The rules of what objects have: attributes, roles and operations.
use Rattle.std.specs.Prelude.{ℕ, ◌&&◌, ◌||◌, not, Bool, true, false, if◌then◌else◌, List, [], ◌∷◌, Option, Some, None, Ok, is_some, slice_get}
use Rattle.std.specs.Option.{option_or, option_map, option_map_or}
use Rattle.use_text.specs.declared.place.Place.{Place}
use Rattle.ocl_values.specs.declared.value.Kind.TheVariants.{Set, OrderedSet}
use Rattle.class_decls.specs.declared.decls.BodyKind.{BodyKind}
use Rattle.class_decls.specs.declared.decls.BodyKind.TheVariants.{Bare, Query, Soil}
use Rattle.class_model.specs.declared.numbers.End.{End}
use Rattle.class_model.specs.declared.object_model.ObjectModel.{ObjectModel}
use Rattle.class_model.specs.declared.types.OclType.{OclType}
use Rattle.class_model.specs.declared.types.OclType.TheVariants as T
use Rattle.class_model.specs.Features.{attr, derived, operation, role}
use Rattle.class_model.specs.Multiplicities.{greatest_is_one}
use Rattle.class_model.specs.Ends.{end_of}
use Rattle.class_model.specs.Parts.{attr_type, der_type, op_body_kind, op_params, op_result}
use Rattle.class_model.specs.declared.object_model.AssociationEnd.{AssociationEnd}
use Rattle.ocl_core.specs.declared.expression.Expr.{Expr}
use Rattle.ocl_core.specs.declared.expression.Expr.TheVariants as E
use Rattle.ocl_core.specs.declared.operators.TypeTest.{TypeTest}
use Rattle.ocl_core.specs.declared.operators.TypeTest.TheVariants.{IsTypeOf, IsKindOf, AsType}
use Rattle.ocl_core.specs.declared.operators.When.{When}
use Rattle.ocl_core.specs.declared.operators.When.TheVariants.{Now, Pre}
use Rattle.ocl_rules.specs.declared.properties.Feature.{Feature}
use Rattle.ocl_rules.specs.declared.properties.Feature.TheVariants as F
use Rattle.ocl_rules.specs.declared.typed.Typed.{Typed}
use Rattle.ocl_rules.specs.Arguments.{broken_arguments, conforms_to, exprs, unless_broken}
use Rattle.ocl_rules.specs.Typings.{Typing, breaks_n, breaks_t, typed}

abbrev pub when_of : Bool → When
when_of is_before = if is_before then Pre else Now

-- `@pre` stands in postconditions only
abbrev pub may_stand : Bool → Bool → Bool
may_stand is_post is_before = is_post || not is_before

-- what stands at an end: an object, or a set of objects, which is ordered where the end is
abbrev pub type_at : AssociationEnd → OclType
type_at end = if greatest_is_one end.multiplicity then T.Class end.class else T.Coll (if end.is_ordered then OrderedSet else Set) (T.Class end.class)

abbrev pub type_at_end : ObjectModel → ℕ → End → OclType
type_at_end m a e = option_map_or (λ association. type_at (end_of association e)) (slice_get m.assocs a) (T.Class 0)

-- a stored attribute, a derived one or a role of a class under a name
abbrev pub feature_of_class : ObjectModel → ℕ → List ℕ → Option Feature
feature_of_class m c name =
    option_or (option_map F.Attr (attr m c name)) (option_or (option_map F.Derived (derived m c name)) (option_map (λ r. F.Role r.0 r.1) (role m c name)))

-- what a value of a type has under a name, without arguments
abbrev pub feature_of : ObjectModel → OclType → List ℕ → Option Feature
feature_of m (T.Class c) name = feature_of_class m c name
feature_of m T.Any name = None
feature_of m T.Void name = None
feature_of m T.Bool name = None
feature_of m T.Int name = None
feature_of m T.Str name = None
feature_of m (T.Enum n) name = None
feature_of m (T.Coll' kind shape row) name = None

-- whether it has anything
abbrev pub has_property : ObjectModel → OclType → List ℕ → Bool
has_property m t name = is_some (feature_of m t name)

-- a reading of it
abbrev pub feature_read : ObjectModel → Expr → When → Feature → Typed
feature_read m e when (F.Attr a) = record { expr = E.Attr e a when; of_type = attr_type m a }
feature_read m e when (F.Derived d) = record { expr = E.Derived e d when; of_type = der_type m d }
feature_read m e when (F.Role a end) = record { expr = E.Nav e a end when; of_type = type_at_end m a end }

abbrev pub read_at : ObjectModel → Place → Bool → Bool → Expr → Option Feature → Typing Typed
read_at m place is_post is_before e None = breaks_n 2 place
read_at m place is_post is_before e (Some found) =
    if may_stand is_post is_before then Ok (feature_read m e (when_of is_before) found) else breaks_t 9 place

-- a name without arguments behind a dot: unknown it breaks N2, with `@pre` outside a postcondition T9
abbrev pub property_rule : ObjectModel → Place → Bool → Bool → List ℕ → Typed → Typing Typed
property_rule m place is_post is_before name source = read_at m place is_post is_before source.expr (feature_of m source.of_type name)

-- the operation of a name that values of a type have
abbrev pub operation_of_type : ObjectModel → OclType → List ℕ → Option ℕ
operation_of_type m (T.Class c) name = operation m c name
operation_of_type m T.Any name = None
operation_of_type m T.Void name = None
operation_of_type m T.Bool name = None
operation_of_type m T.Int name = None
operation_of_type m T.Str name = None
operation_of_type m (T.Enum n) name = None
operation_of_type m (T.Coll' kind shape row) name = None

-- what a query gives: an operation with statements, or without a result, is none
abbrev pub query_type : BodyKind → Option OclType → Option OclType
query_type Soil t = None
query_type Bare t = t
query_type Query t = t

abbrev pub queried : Place → ℕ → Typed → List Typed → Option OclType → Typing Typed
queried place op source args None = breaks_t 10 place
queried place op source args (Some t) = typed (E.Query source.expr op (exprs args)) t

-- a call of a model's operation. It is never made of the state before
abbrev pub query_rule : ObjectModel → Place → Bool → ℕ → Typed → List Typed → Typing Typed
query_rule m place is_before op source args =
    unless_broken place (broken_arguments (λ p a. conforms_to m p.of_type a) (op_params m op) args)
    (if is_before then breaks_t 9 place else queried place op source args (query_type (op_body_kind m op) (op_result m op)))

-- whether a type may be asked for: each but OclVoid
abbrev pub may_be_asked_for : OclType → Bool
may_be_asked_for T.Void = false
may_be_asked_for T.Any = true
may_be_asked_for T.Bool = true
may_be_asked_for T.Int = true
may_be_asked_for T.Str = true
may_be_asked_for (T.Enum e) = true
may_be_asked_for (T.Class c) = true
may_be_asked_for (T.Coll' kind shape row) = true

abbrev pub test_type : TypeTest → OclType → OclType
test_type IsTypeOf t = T.Bool
test_type IsKindOf t = T.Bool
test_type AsType t = t

-- a test of the type of a value, or its use as a value of that type
abbrev pub type_test_rule : Place → Bool → TypeTest → Typed → OclType → Typing Typed
type_test_rule place is_before test source t =
    if may_be_asked_for t then (if is_before then breaks_t 9 place else typed (E.Test test source.expr t Now) (test_type test t)) else breaks_t 3 place

-- `oclIsNew`
abbrev pub is_new_rule : Place → Bool → Bool → Typed → List Typed → Typing Typed
is_new_rule place is_post is_before source [] = if is_post && not is_before then typed (E.IsNew source.expr) T.Bool else breaks_t 9 place
is_new_rule place is_post is_before source (a ∷ more) = breaks_t 2 place
