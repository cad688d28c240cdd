-- What `info vars` writes.
use Rattle.std.specs.Prelude.{ℕ, List, [], ◌∷◌, ◌++◌, codes}
use Rattle.std.specs.List.{flat_map}
use Rattle.class_model.specs.declared.object_model.ObjectModel.{ObjectModel}
use Rattle.object_state.specs.declared.objects.Variable.{Variable}
use Rattle.object_state.specs.State.{State}
use Rattle.use_info.specs.TypeTexts.{type_text}
use Rattle.use_info.specs.ValueTexts.{text_of}

-- `NAME : T = VALUE`
abbrev pub variable_line : ObjectModel → State → List ℕ × Variable → List ℕ
variable_line m s v = v.0 ++ codes " : " ++ type_text m v.1.of_type ++ codes " = " ++ text_of m s v.1.value ++ codes "\n"

abbrev pub variables_text : ObjectModel → State → List (List ℕ × Variable) → List ℕ
variables_text m s [] = codes "no variables\n"
variables_text m s (v ∷ vs) = flat_map (variable_line m s) (v ∷ vs)

abbrev pub variables_info : ObjectModel → State → List ℕ
variables_info m s = variables_text m s s.variables
