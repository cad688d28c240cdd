use Rattle.std.proofs.Common.{◌≡◌, take}
use Rattle.use_session.proofs.machine.copied_names.Given as goal

abbrev pub invariant-names : goal.invariant-names
invariant-names l = l.all ≡ take l.name-index l.names
