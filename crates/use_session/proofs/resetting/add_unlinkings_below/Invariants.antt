use Rattle.std.proofs.Common.{◌≡◌, ◌++◌}
use Rattle.use_session.specs.Resetting.{unlinkings_below}
use Rattle.use_session.proofs.resetting.add_unlinkings_below.Given as goal

abbrev pub invariant-assocs : goal.invariant-assocs
invariant-assocs l = l.changes ≡ l.fn.changes ++ unlinkings_below l.store.state l.assoc
