use Rattle.std.proofs.Common.{◌≡◌}
use Rattle.object_tests.proofs.stores.walks.walk.Given as goal

abbrev pub invariant-steps : goal.invariant-steps
invariant-steps l = l.plain ≡ l.store
