use Rattle.std.proofs.Common.{◌≡◌, length}
use Rattle.entry_states.specs.Leading.{CanBeTakenBack, taken_back}
use Rattle.entry_states.specs.Noting.{AreNoted}
use Rattle.soil_changes.proofs.transaction.take_back.Given as goal

abbrev pub invariant-back : goal.invariant-back
invariant-back l = record {
  layout : l.store.layout ≡ l.fn.store.layout;
  start : taken_back l.store.layout l.changes.items l.store.state ≡ taken_back l.fn.store.layout l.fn.changes.items l.fn.store.state;
  back : CanBeTakenBack l.store.layout l.changes.items l.store.state;
  noted : AreNoted l.fn.store.layout l.fn.store.state l.store.state l.fn.frames l.frames;
}

abbrev pub decreases-back : goal.decreases-back
decreases-back l = length l.changes.items
