use Rattle.std.proofs.Common.{All, take}
use Rattle.command_cache.specs.Meanings.{IsMeant}
use Rattle.command_cache.proofs.meanings.are_meant.Given as goal

abbrev pub invariant-names : goal.invariant-names
invariant-names g l = All (IsMeant (g.S.Scope.known l.scope)) (take l.named-index l.names)
