-- How what is bound for the names of the shell follows changes; no definition of a result rests on it.
use Rattle.std.specs.Prelude.{ℕ, nat_eq, List, [], ◌∷◌, Option, Some, None, slice_set}
use Rattle.std.specs.Cmp.Lexicographic.{pointwise}
use Rattle.std.specs.List.{position}
use Rattle.std.specs.Option.{option_map_or}
use Rattle.ocl_values.specs.declared.value.Value.{Value}
use Rattle.object_state.specs.declared.change.Change.{Change}
use Rattle.object_state.specs.declared.change.Change.TheVariants.{Create, Remove, SetSlot, Link, Unlink, Bind, Unbind}
use Rattle.object_state.specs.State.{State}
use Rattle.soil_exec.specs.Machine.{shell_value}

-- the name of what a change brings or takes away
abbrev pub name_of : Change → Option (List ℕ)
name_of (Create d) = Some d.name
name_of (Remove d) = Some d.name
name_of (SetSlot o a old new) = None
name_of (Link d) = None
name_of (Unlink d) = None
name_of (Bind name old new) = Some name
name_of (Unbind name old) = Some name

-- what the name stands for now is bound at its place
abbrev pub refreshed : List (List ℕ) → State → List Value → List ℕ → List Value
refreshed shell s env name = option_map_or (λ place. slice_set env place (shell_value s name)) (position (pointwise nat_eq name) shell) env

abbrev pub refreshed_for : List (List ℕ) → State → List Value → Change → List Value
refreshed_for shell s env c = option_map_or (refreshed shell s env) (name_of c) env

abbrev pub refreshed_all : List (List ℕ) → State → List Value → List Change → List Value
refreshed_all shell s env [] = env
refreshed_all shell s env (c ∷ cs) = refreshed_all shell s (refreshed_for shell s env c) cs
