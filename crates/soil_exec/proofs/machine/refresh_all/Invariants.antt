use Rattle.std.proofs.Common.{◌≡◌, length}
use Rattle.soil_exec.specs.Refreshing.{refreshed_all}
use Rattle.soil_exec.proofs.machine.refresh_all.Given as goal

abbrev pub invariant-changes : goal.invariant-changes
invariant-changes l = record {
  same : refreshed_all l.shell l.store.state l.env l.rest ≡ refreshed_all l.shell l.store.state l.fn.env l.fn.changes;
  length : length l.env ≡ length l.fn.env;
}

abbrev pub decreases-changes : goal.decreases-changes
decreases-changes l = length l.rest
