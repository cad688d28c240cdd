-- The texts of values, with the names of a state and of its model.
use Rattle.std.specs.Prelude.{ℕ, List, Option, slice_get}
use Rattle.std.specs.Option.{option_and_then, option_map}
use Rattle.ocl_values.specs.Printing.{value_text}
use Rattle.ocl_values.specs.declared.value.Value.{Value}
use Rattle.class_model.specs.declared.object_model.ObjectModel.{ObjectModel}
use Rattle.object_state.specs.State.{State, object}

-- the name of a live object
abbrev pub object_name : State → ℕ → Option (List ℕ)
object_name s o = option_map (λ x. x.name) (object s o)

-- an enumeration's name and a literal's, where there is such a literal
abbrev pub literal_name : ObjectModel → ℕ → ℕ → Option (List ℕ × List ℕ)
literal_name m e l = option_and_then (λ d. option_map (λ name. (d.name, name)) (slice_get d.literals l)) (slice_get m.enums e)

abbrev pub text_of : ObjectModel → State → Value → List ℕ
text_of m s v = value_text (object_name s) (literal_name m) v
