use Rattle.std.specs.Vec.Iter.{into_iter_items}
use Rattle.entry_states.specs.Noting.{AreNoted}
use Rattle.use_session.proofs.Led.{Carries}
use Rattle.use_session.proofs.moments.carry_out_again.Given as goal

abbrev pub invariant-on : goal.invariant-on
invariant-on l = record {
  carries : Carries l.fn.store l.fn.changes l.store (into_iter_items l.change-iterator) l.again.items;
  noted : AreNoted l.fn.store.layout l.fn.store.state l.store.state l.fn.frames l.frames;
}
