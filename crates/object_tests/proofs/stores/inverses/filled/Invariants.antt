use Rattle.std.proofs.Common.{◌≡◌}
use Rattle.object_tests.proofs.stores.inverses.filled.Given as goal

abbrev pub invariant-moves : goal.invariant-moves
invariant-moves l = l.plain ≡ l.store
