-- Literals, and the literals of enumerations: `#a` and `E::a`.
use Rattle.std.specs.Prelude.{ℕ, Bool, if◌then◌else◌, Option, Some, None}
use Rattle.std.specs.Option.{option_map}
use Rattle.use_text.specs.declared.place.Place.{Place}
use Rattle.ocl_values.specs.declared.value.Value.{Value}
use Rattle.ocl_values.specs.declared.value.Value.TheVariants as V
use Rattle.class_decls.specs.declared.decls.Name.{Name}
use Rattle.class_model.specs.declared.object_model.ObjectModel.{ObjectModel}
use Rattle.class_model.specs.declared.types.OclType.{OclType}
use Rattle.class_model.specs.declared.types.OclType.TheVariants as T
use Rattle.class_model.specs.Features.{literal, only_literal}
use Rattle.ocl_core.specs.declared.expression.Expr.TheVariants as E
use Rattle.ocl_rules.specs.declared.typed.Typed.{Typed}
use Rattle.ocl_rules.specs.Typings.{Typing, breaks_n, breaks_t, then_typed, typed}
use Rattle.ocl_scope.specs.declared.environment.Environment.{Environment}
use Rattle.ocl_scope.specs.Names.{type_wanted}

-- the type of a literal: null and invalid have OclVoid
abbrev pub literal_type : Value → OclType
literal_type V.Null = T.Void
literal_type V.Invalid = T.Void
literal_type (V.Bool b) = T.Bool
literal_type (V.Int n) = T.Int
literal_type (V.Str s) = T.Str
literal_type (V.Enum e l) = T.Void
literal_type (V.Obj o) = T.Void
literal_type (V.Coll' kind shape row) = T.Void

-- `#a`: the literal of the only enumeration that has it
abbrev pub literal_found : Place → Option (ℕ × ℕ) → Typing Typed
literal_found place None = breaks_n 3 place
literal_found place (Some l) = typed (E.Literal (V.Enum l.0 l.1)) (T.Enum l.0)

abbrev pub only_literal_rule : ObjectModel → Name → Typing Typed
only_literal_rule m name = literal_found name.place (only_literal m name.text)

-- the literal of a name in a type
abbrev pub literal_of_type : ObjectModel → OclType → Name → Option (ℕ × ℕ)
literal_of_type m (T.Enum e) name = option_map (λ l. (e, l)) (literal m e name.text)
literal_of_type m T.Any name = None
literal_of_type m T.Void name = None
literal_of_type m T.Bool name = None
literal_of_type m T.Int name = None
literal_of_type m T.Str name = None
literal_of_type m (T.Class c) name = None
literal_of_type m (T.Coll' kind shape row) name = None

abbrev pub plain_literal : Place → Bool → Bool → Option (ℕ × ℕ) → Typing Typed
plain_literal place is_before is_called None = breaks_n 3 place
plain_literal place is_before is_called (Some l) =
    if is_called then breaks_t 2 place else (if is_before then breaks_t 9 place else typed (E.Literal (V.Enum l.0 l.1)) (T.Enum l.0))

-- `E::a`, which takes no arguments and no `@pre`
abbrev pub qualified : ObjectModel → Environment → Name → Name → Bool → Bool → Typing Typed
qualified m env name literal is_before is_called =
    then_typed (type_wanted m env name) (λ t. plain_literal literal.place is_before is_called (literal_of_type m t literal))
