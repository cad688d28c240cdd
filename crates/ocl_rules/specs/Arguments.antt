-- The arguments of a call, against its parameters.
use Rattle.std.specs.Prelude.{ℕ, ◌==◌, Bool, false, if◌then◌else◌, List, length, map, Option, Some, None, slice_get}
use Rattle.std.specs.List.{enumerate_from, list_all}
use Rattle.std.specs.Option.{option_map_or}
use Rattle.use_text.specs.declared.place.Place.{Place}
use Rattle.class_model.specs.declared.object_model.ObjectModel.{ObjectModel}
use Rattle.class_model.specs.declared.types.OclType.{OclType}
use Rattle.class_model.specs.Conformance.{conforms}
use Rattle.ocl_core.specs.declared.expression.Expr.{Expr}
use Rattle.ocl_rules.specs.declared.typed.Typed.{Typed}
use Rattle.ocl_rules.specs.Typings.{Typing, breaks_t}

-- the argument at a place passes a test
abbrev pub passes_at : (Typed → Bool) → List Typed → ℕ → Bool
passes_at test args i = option_map_or test (slice_get args i) false

-- the argument at the place of each parameter fits it
abbrev pub all_fit : {P : Type 0} → (P → Typed → Bool) → List P → List Typed → Bool
all_fit fits params args = list_all (λ p. passes_at (fits p.1) args p.0) (enumerate_from 0 params)

-- an argument conforms to a type
abbrev pub conforms_to : ObjectModel → OclType → Typed → Bool
conforms_to m t a = conforms m a.of_type t

-- the rule that they break: T2 where there are more or fewer than parameters, T3 where one does not conform
abbrev pub broken_arguments : {P : Type 0} → (P → Typed → Bool) → List P → List Typed → Option ℕ
broken_arguments fits params args = if length args == length params then (if all_fit fits params args then None else Some 3) else Some 2

-- a thing, unless such a rule is broken, at the called name
abbrev pub unless_broken : {A : Type 0} → Place → Option ℕ → Typing A → Typing A
unless_broken place None given = given
unless_broken place (Some number) given = breaks_t number place

abbrev pub exprs : List Typed → List Expr
exprs args = map (λ a. a.expr) args
