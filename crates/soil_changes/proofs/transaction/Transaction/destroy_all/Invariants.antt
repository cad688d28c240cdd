use Rattle.std.proofs.Common.{◌≡◌, drop}
use Rattle.soil_changes.specs.Acts.{each}
use Rattle.soil_changes.specs.Destroying.{destroy}
use Rattle.soil_changes.proofs.transaction.Transaction.destroy_all.Given as goal

abbrev pub invariant-values : goal.invariant-values
invariant-values l = each destroy (drop l.value-index l.values) l.self ≡ each destroy l.values l.fn.self
