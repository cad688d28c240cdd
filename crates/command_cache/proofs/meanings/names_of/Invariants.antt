use Rattle.std.proofs.Common.{◌≡◌, All, map, take}
use Rattle.std.specs.List.{flat_map}
use Rattle.soil_check.specs.Shell.{name_of}
use Rattle.command_cache.specs.declared.meanings.Named.{Named}
use Rattle.command_cache.specs.Meanings.{IsMeant, listed}
use Rattle.command_cache.proofs.meanings.names_of.Given as goal

abbrev pub invariant-tokens : goal.invariant-tokens
invariant-tokens g l =
    (map (λ (n : Named). n.name) l.names ≡ flat_map (λ t. listed (name_of l.text t)) (take l.token-index l.tokens))
    × All (IsMeant (g.S.Scope.known l.scope)) l.names
