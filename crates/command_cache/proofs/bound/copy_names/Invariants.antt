use Rattle.std.proofs.Common.{◌≡◌, take}
use Rattle.command_cache.proofs.bound.copy_names.Given as goal

abbrev pub invariant-names : goal.invariant-names
invariant-names l = l.all ≡ take l.bound-index l.names
