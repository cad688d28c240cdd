use Rattle.std.proofs.Common.{◌≡◌, ◌≤◌, length, take}
use Rattle.ocl_scope.specs.Environments.{last_that}
use Rattle.soil_scope.specs.Calls.{has_operation, implicit}
use Rattle.soil_scope.proofs.calls.implicit.Given as goal

abbrev pub invariant-variables : goal.invariant-variables
invariant-variables l = record {
  within : l.i ≤ length l.variables;
  same : last_that (has_operation l.model l.name) (take l.i l.variables) ≡ implicit l.model l.env l.name;
}

abbrev pub decreases-variables : goal.decreases-variables
decreases-variables l = l.i
