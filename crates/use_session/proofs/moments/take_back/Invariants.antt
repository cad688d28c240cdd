use Rattle.std.proofs.Common.{◌≡◌, ◌++◌, length, reverse}
use Rattle.entry_states.specs.Leading.{CanBeTakenBack, taken_back}
use Rattle.entry_states.specs.Noting.{AreNoted}
use Rattle.use_session.proofs.moments.take_back.Given as goal

abbrev pub invariant-back : goal.invariant-back
invariant-back l = record {
  layout : l.store.layout ≡ l.fn.store.layout;
  start : taken_back l.store.layout l.left.items l.store.state ≡ taken_back l.fn.store.layout l.fn.changes l.fn.store.state;
  back : CanBeTakenBack l.store.layout l.left.items l.store.state;
  same : l.left.items ++ reverse l.again.items ≡ l.fn.changes;
  noted : AreNoted l.fn.store.layout l.fn.store.state l.store.state l.fn.frames l.frames;
}

abbrev pub decreases-back : goal.decreases-back
decreases-back l = length l.left.items
