-- What the names of a shell stand for in a state: its variables, and its live objects.
use Rattle.std.specs.Prelude.{ℕ, List, Option, Some, None}
use Rattle.std.specs.Option.{option_and_then, option_map}
use Rattle.object_state.specs.declared.objects.Variable.{Variable}
use Rattle.object_state.specs.State.{State, object, object_named, variable as bound}
use Rattle.soil_check.specs.Scopes.{Known, object as known_as_object, variable}

abbrev pub known_object : State → ℕ → Option Known
known_object s o = option_map (λ x. known_as_object x.class) (object s o)

abbrev pub known_unless_bound : State → List ℕ → Option Variable → Option Known
known_unless_bound s name (Some v) = Some (variable v.of_type)
known_unless_bound s name None = option_and_then (known_object s) (object_named s name)

abbrev pub known : State → List ℕ → Option Known
known s name = known_unless_bound s name (bound s name)
