-- What a command sees: the values of its names of the shell, and what the open operation binds.
use Rattle.std.specs.Prelude.{ℕ, ◌+◌, ◌^◌, nat_lt, false, if◌then◌else◌, List, [], codes, fold, length, Option, Some, None}
use Rattle.std.specs.Option.{option_and_then, option_map_or}
use Rattle.use_text.specs.Pieces.{same_text}
use Rattle.use_text.specs.declared.place.Place.{Place}
use Rattle.class_model.specs.declared.types.OclType.{OclType}
use Rattle.class_model.specs.declared.types.OclType.TheVariants as T
use Rattle.ocl_rules.specs.Typings.{Typing, breaks_t}
use Rattle.ocl_shapes.specs.Combining.{pure}
use Rattle.soil_scope.specs.Variables.{no_values, with_value}
use Rattle.soil_scope.specs.declared.variables.Role.TheVariants.{Fixed, Free, Object, Shell}
use Rattle.soil_scope.specs.declared.variables.Variables.{Variables}
use Rattle.soil_check.specs.declared.scope.Bindings.{Bindings}
use Rattle.soil_check.specs.Scopes.{Known, object, variable}

-- the value of a name, by what it stands for; one that stands for nothing has no type yet
abbrev pub with_known : Variables → List ℕ → Option Known → Variables
with_known vs name None = with_value Free vs None T.Void false
with_known vs name (Some (object class)) = with_value Object vs (Some name) (T.Class class) false
with_known vs name (Some (variable t)) = with_value Shell vs (Some name) t false

abbrev pub with_shell_name : (List ℕ → Option Known) → Variables → List ℕ → Variables
with_shell_name known vs name = with_known vs name (known name)

-- the properties of `self` may be named without it
abbrev pub with_binding : Variables → List ℕ × OclType → Variables
with_binding vs b = with_value Fixed vs (Some b.0) b.1 (same_text b.0 (codes "self"))

abbrev pub bindings_of : Option Bindings → List (List ℕ × OclType)
bindings_of frame = option_map_or (λ b. b.names) frame []

abbrev pub result_of : Option Bindings → Option OclType
result_of frame = option_and_then (λ b. b.result_type) frame

-- all values, the open operation's innermost
abbrev pub with_all : (List ℕ → Option Known) → List (List ℕ) → List (List ℕ × OclType) → Variables
with_all known names bindings = fold with_binding (fold (with_shell_name known) no_values names) bindings

-- their numbers fit into 32 bits; no command that is read has so many names
abbrev pub seen : (List ℕ → Option Known) → List (List ℕ) → Option Bindings → Place → Typing Variables
seen known names frame place =
    if nat_lt (length names + length (bindings_of frame)) (2 ^ 31) then pure (with_all known names (bindings_of frame)) else breaks_t 16 place
