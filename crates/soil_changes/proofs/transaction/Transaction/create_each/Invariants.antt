use Rattle.std.proofs.Common.{◌≡◌, drop}
use Rattle.soil_changes.specs.Acts.{each}
use Rattle.soil_changes.specs.Creating.{create}
use Rattle.soil_changes.proofs.transaction.Transaction.create_each.Given as goal

abbrev pub invariant-names : goal.invariant-names
invariant-names l = record {
  same : each (create l.class) (drop l.name-index l.names) l.self ≡ each (create l.class) l.names l.fn.self;
  layout : l.self.layout ≡ l.fn.self.layout;
}
