use Rattle.std.proofs.Common.{◌≡◌, All, length}
use Rattle.ocl_values.specs.Shape.{IsWellMade}
use Rattle.value_tests.proofs.collections.sorted.Given as goal

abbrev pub invariant-each : goal.invariant-each
invariant-each l = record {
  well : All IsWellMade l.items.items;
  beside : length l.items.items ≡ length l.keys.items;
}
