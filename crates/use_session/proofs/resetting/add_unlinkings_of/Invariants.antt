use Rattle.std.proofs.Common.{◌≡◌, ◌++◌}
use Rattle.std.specs.Vec.Iter.{into_iter_items}
use Rattle.std.specs.List.{flat_map}
use Rattle.object_state.specs.State.{stamp_of}
use Rattle.use_session.specs.Resetting.{unlinking_if, unlinkings_of}
use Rattle.use_session.proofs.resetting.add_unlinkings_of.Given as goal

abbrev pub invariant-pairs : goal.invariant-pairs
invariant-pairs l =
    l.changes ++ flat_map (λ pair. unlinking_if l.store.state l.assoc pair (stamp_of l.store.state l.assoc pair.0 pair.1)) (into_iter_items l.pair-iterator)
    ≡ l.fn.changes ++ unlinkings_of l.store.state l.assoc
