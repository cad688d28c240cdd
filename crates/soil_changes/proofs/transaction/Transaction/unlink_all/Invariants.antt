use Rattle.std.proofs.Common.{◌≡◌}
use Rattle.std.specs.Vec.Iter.{into_iter_items}
use Rattle.object_referrers.specs.Referring.{links_of}
use Rattle.soil_changes.specs.Acts.{each}
use Rattle.soil_changes.specs.Destroying.{unlink_all, unlink_entry}
use Rattle.soil_changes.proofs.transaction.Transaction.unlink_all.Given as goal

abbrev pub invariant-links : goal.invariant-links
invariant-links l = record {
  same : each unlink_entry (into_iter_items l.link-iterator) l.self ≡ unlink_all l.object l.fn.self;
  left : links_of l.self.state l.object ≡ into_iter_items l.link-iterator;
}
