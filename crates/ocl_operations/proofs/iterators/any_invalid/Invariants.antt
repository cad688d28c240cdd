use Rattle.std.proofs.Common.{◌≡◌, drop}
use Rattle.ocl_values.specs.Shape.{some_invalid}
use Rattle.ocl_operations.proofs.iterators.any_invalid.Given as goal

abbrev pub invariant-seek : goal.invariant-seek
invariant-seek l = some_invalid (drop l.value-index l.values) ≡ some_invalid l.values
