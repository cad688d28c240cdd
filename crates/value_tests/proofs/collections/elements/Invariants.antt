use Rattle.std.proofs.Common.{All}
use Rattle.ocl_values.specs.Shape.{IsWellMade}
use Rattle.value_tests.proofs.collections.elements.Given as goal

abbrev pub invariant-each : goal.invariant-each
invariant-each l = All IsWellMade l.values.items
