use Rattle.std.proofs.Common.{◌≡◌}
use Rattle.std.specs.Vec.Iter.{into_iter_items}
use Rattle.soil_changes.specs.Acts.{each}
use Rattle.soil_changes.specs.Destroying.{clear_slot, clear_slots}
use Rattle.soil_changes.proofs.transaction.Transaction.clear_slots.Given as goal

abbrev pub invariant-places : goal.invariant-places
invariant-places l = record {
  same : each (clear_slot l.object) (into_iter_items l.place-iterator) l.self ≡ clear_slots l.object l.fn.self;
  links : l.self.state.links ≡ l.fn.self.state.links;
}
