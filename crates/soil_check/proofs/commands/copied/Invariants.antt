use Rattle.std.proofs.Common.{◌≡◌, take}
use Rattle.soil_check.proofs.commands.copied.Given as goal

abbrev pub invariant-names : goal.invariant-names
invariant-names l = l.all ≡ take l.name-index l.names
