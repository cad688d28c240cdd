use Rattle.std.proofs.Common.{◌≡◌, drop}
use Rattle.soil_changes.specs.Acts.{each}
use Rattle.soil_changes.specs.Creating.{refuse_unless_name}
use Rattle.soil_changes.proofs.transaction.Transaction.check_names.Given as goal

abbrev pub invariant-names : goal.invariant-names
invariant-names l = each refuse_unless_name (drop l.name-index l.names) l.self ≡ each refuse_unless_name l.names l.self
