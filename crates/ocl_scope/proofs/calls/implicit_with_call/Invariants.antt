use Rattle.std.proofs.Common.{◌≡◌, ◌≤◌, length, take}
use Rattle.ocl_scope.specs.Environments.{last_that}
use Rattle.ocl_scope.specs.Calls.{answers_call, implicit_with_call}
use Rattle.ocl_scope.proofs.calls.implicit_with_call.Given as goal

abbrev pub invariant-variables : goal.invariant-variables
invariant-variables l = record {
  within : l.i ≤ length l.variables;
  same : last_that (answers_call l.model l.name) (take l.i l.variables) ≡ implicit_with_call l.model l.env l.name;
}

abbrev pub decreases-variables : goal.decreases-variables
decreases-variables l = l.i
