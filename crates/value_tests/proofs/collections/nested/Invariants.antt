use Rattle.ocl_values.specs.Shape.{IsWellMade}
use Rattle.value_tests.proofs.collections.nested.Given as goal

abbrev pub invariant-wrap : goal.invariant-wrap
invariant-wrap l = IsWellMade l.value
