use Rattle.std.proofs.Common.{◌≡◌}
use Rattle.object_state.specs.Faults.{Fits}
use Rattle.object_tests.proofs.stores.walks.carry_out_in_turn.Given as goal

abbrev pub invariant-turns : goal.invariant-turns
invariant-turns l = (l.plain ≡ l.store) × (l.both.1 ≡ l.both.0) × Fits l.plain.layout l.plain.state l.both.0
