-- How many values a command sees.
use Rattle.std.proofs.Common.{◌≡◌, ℕ, ◌+◌, List, [], ◌∷◌, fold, length, Option, Some, None, refl, arith}
use Rattle.class_model.specs.declared.types.OclType.{OclType}
use Rattle.soil_scope.specs.Variables.{no_values}
use Rattle.soil_scope.specs.declared.variables.Variables.{Variables}
use Rattle.soil_check.specs.Scopes.{Known, object, variable}
use Rattle.soil_check.specs.Seen.{with_all, with_binding, with_known, with_shell_name}

known_size : (vs : Variables) (name : List ℕ) (k : Option Known) → (with_known vs name k).environment.size ≡ vs.environment.size + 1
known_size vs name None = refl
known_size vs name (Some (object class)) = refl
known_size vs name (Some (variable t)) = refl

pub names_size : (known : List ℕ → Option Known) (vs : Variables) (names : List (List ℕ)) →
    (fold (with_shell_name known) vs names).environment.size ≡ vs.environment.size + length names
names_size known vs [] = omega arith
names_size known vs (n ∷ ns) = omega (arith, known_size vs n (known n), names_size known (with_shell_name known vs n) ns)

bindings_size : (vs : Variables) (bindings : List (List ℕ × OclType)) → (fold with_binding vs bindings).environment.size ≡ vs.environment.size + length bindings
bindings_size vs [] = omega arith
bindings_size vs (b ∷ bs) = omega (arith, bindings_size (with_binding vs b) bs)

-- each name and each binding is one value
pub all_size : (known : List ℕ → Option Known) (names : List (List ℕ)) (bindings : List (List ℕ × OclType)) →
    (with_all known names bindings).environment.size ≡ length names + length bindings
all_size known names bindings = omega (arith, names_size known no_values names, bindings_size (fold (with_shell_name known) no_values names) bindings)
