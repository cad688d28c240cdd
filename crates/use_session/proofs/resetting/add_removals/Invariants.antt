use Rattle.std.proofs.Common.{◌≡◌, ◌++◌}
use Rattle.std.specs.Vec.Iter.{into_iter_items}
use Rattle.std.specs.List.{flat_map}
use Rattle.object_state.specs.State.{object}
use Rattle.use_session.specs.Resetting.{removal_if, removals}
use Rattle.use_session.proofs.resetting.add_removals.Given as goal

abbrev pub invariant-objects : goal.invariant-objects
invariant-objects l =
    l.changes ++ flat_map (λ o. removal_if l.store.state o (object l.store.state o)) (into_iter_items l.number-iterator) ≡ l.fn.changes ++ removals l.store.state
