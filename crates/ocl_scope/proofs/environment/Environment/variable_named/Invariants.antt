use Rattle.std.proofs.Common.{◌≡◌, ◌≤◌, length, take}
use Rattle.ocl_scope.specs.Environments.{has_name, last_that, variable_named}
use Rattle.ocl_scope.proofs.environment.Environment.variable_named.Given as goal

abbrev pub invariant-variables : goal.invariant-variables
invariant-variables l = record {
  within : l.i ≤ length l.variables;
  same : last_that (has_name l.name) (take l.i l.variables) ≡ variable_named l.self l.name;
}

abbrev pub decreases-variables : goal.decreases-variables
decreases-variables l = l.i
