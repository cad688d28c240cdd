use Rattle.std.proofs.Common.{◌≡◌}
use Rattle.object_tests.proofs.stores.faults.a_change_that_does_not_fit_has_its_first_fault.Given as goal

abbrev pub invariant-rows : goal.invariant-rows
invariant-rows g l = l.plain ≡ l.store
