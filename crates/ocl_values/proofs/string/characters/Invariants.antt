use Rattle.std.proofs.Common.{◌≡◌, [], ◌∷◌, map}
use Rattle.ocl_values.specs.Strings.{string_of}
use Rattle.ocl_values.proofs.string.characters.Given as goal

abbrev pub invariant-each : goal.invariant-each
invariant-each l = l.list.items ≡ map (λ c. string_of (c ∷ [])) l.yielded
