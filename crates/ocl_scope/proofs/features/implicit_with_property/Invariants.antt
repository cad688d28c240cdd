use Rattle.std.proofs.Common.{◌≡◌, ◌≤◌, length, take}
use Rattle.ocl_scope.specs.Environments.{last_that}
use Rattle.ocl_scope.specs.Names.{gives_property, implicit_with_property}
use Rattle.ocl_scope.proofs.features.implicit_with_property.Given as goal

abbrev pub invariant-variables : goal.invariant-variables
invariant-variables l = record {
  within : l.i ≤ length l.variables;
  same : last_that (gives_property l.model l.name) (take l.i l.variables) ≡ implicit_with_property l.model l.env l.name;
}

abbrev pub decreases-variables : goal.decreases-variables
decreases-variables l = l.i
