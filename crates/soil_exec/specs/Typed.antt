-- Variables whose types are a model's.
use Rattle.std.specs.Prelude.{All}
use Rattle.class_model.specs.InRange.{IsTypeOf}
use Rattle.class_model.specs.declared.object_model.ObjectModel.{ObjectModel}
use Rattle.object_state.specs.State.{State}

-- each variable of a state has a type of the model
abbrev pub IsTyped : ObjectModel → State → Type 0
IsTyped m s = All (λ e. IsTypeOf m e.1.of_type) s.variables
