-- The rules of `if`, of `let`, of collection literals, and the one of how deep types may nest.
use Rattle.std.specs.Prelude.{ℕ, suc, ◌&&◌, not, Bool, true, false, nat_lt, if◌then◌else◌, List, [], ◌∷◌, map, fold, Option, Some, None}
use Rattle.std.specs.Option.{option_or}
use Rattle.use_text.specs.declared.place.Place.{Place}
use Rattle.ocl_values.specs.declared.value.Kind.{Kind}
use Rattle.class_model.specs.declared.object_model.ObjectModel.{ObjectModel}
use Rattle.class_model.specs.declared.types.OclType.{OclType, more_of-OclType}
use Rattle.class_model.specs.declared.types.OclType.TheVariants as T
use Rattle.class_model.specs.Conformance.{conforms, join}
use Rattle.ocl_core.specs.declared.expression.Expr.TheVariants as E
use Rattle.ocl_core.specs.declared.expression.Part.{Part}
use Rattle.ocl_core.specs.declared.expression.Part.TheVariants as P
use Rattle.ocl_rules.specs.declared.typed.Typed.{Typed}
use Rattle.ocl_rules.specs.declared.typed.TypedPart.{TypedPart}
use Rattle.ocl_rules.specs.declared.typed.TypedPart.TheVariants.{One, Range}
use Rattle.ocl_rules.specs.Operators.{both}
use Rattle.ocl_rules.specs.Typings.{Typing, breaks_t, then_typed, typed}

-- a condition that is not Boolean breaks T4 at its first token; the type is the join of the branches' types
abbrev pub if_rule : ObjectModel → Place → Typed → Typed → Typed → Typing Typed
if_rule m condition_place condition a b =
    if conforms m condition.of_type T.Bool then typed (E.If condition.expr a.expr b.expr) (join m a.of_type b.of_type) else breaks_t 4 condition_place

-- a value that does not conform to the declared type breaks T5 at its first token
abbrev pub fits_declared : ObjectModel → OclType → Option OclType → Bool
fits_declared m t None = true
fits_declared m t (Some declared) = conforms m t declared

abbrev pub let_rule : ObjectModel → Place → Option OclType → Typed → Typed → Typing Typed
let_rule m value_place declared value body =
    if fits_declared m value.of_type declared then typed (E.Let value.expr body.expr) body.of_type else breaks_t 5 value_place

-- where the sides of a range are no Integers
abbrev pub broken_range : ObjectModel → TypedPart → Option Place
broken_range m (One e) = None
broken_range m (Range place first last) = if both m T.Int first.of_type last.of_type then None else Some place

-- the first such place
abbrev pub first_broken_range : ObjectModel → List TypedPart → Option Place
first_broken_range m [] = None
first_broken_range m (p ∷ ps) = option_or (broken_range m p) (first_broken_range m ps)

abbrev pub part_of : TypedPart → Part
part_of (One e) = P.One e.expr
part_of (Range place first last) = P.Range first.expr last.expr

abbrev pub part_type : TypedPart → OclType
part_type (One e) = e.of_type
part_type (Range place first last) = T.Int

-- the join of the types of the parts; without a part it is OclVoid
abbrev pub join_of_parts : ObjectModel → OclType → List TypedPart → OclType
join_of_parts m t [] = t
join_of_parts m t (p ∷ ps) = join_of_parts m (join m t (part_type p)) ps

abbrev pub collection_of : ObjectModel → Kind → List TypedPart → Option Place → Typing Typed
collection_of m kind parts (Some place) = breaks_t 1 place
collection_of m kind parts None = typed (E.Make kind (map part_of parts)) (T.Coll kind (join_of_parts m T.Void parts))

abbrev pub collection_rule : ObjectModel → Kind → List TypedPart → Typing Typed
collection_rule m kind parts = collection_of m kind parts (first_broken_range m parts)

-- how many collections nest in a type
abbrev pub levels : OclType → ℕ
levels T.Any = 0
levels T.Void = 0
levels T.Bool = 0
levels T.Int = 0
levels T.Str = 0
levels (T.Enum e) = 0
levels (T.Class c) = 0
levels (T.Coll' kind shape (more_of-OclType element rest)) = suc (levels element)

abbrev pub max_levels : ℕ
max_levels = 256

-- a node whose type nests more collections breaks T16 at its place
abbrev pub level_rule : Place → Typed → Typing Typed
level_rule place e = if nat_lt max_levels (levels e.of_type) then breaks_t 16 place else typed e.expr e.of_type
