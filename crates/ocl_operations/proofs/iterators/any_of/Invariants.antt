use Rattle.std.proofs.Common.{◌≡◌, drop, fold}
use Rattle.ocl_values.specs.Logic.{or_table, entry, no}
use Rattle.ocl_values.specs.Shape.{IsWellMade}
use Rattle.ocl_operations.proofs.iterators.any_of.Given as goal

abbrev pub invariant-each : goal.invariant-each
invariant-each l = record {
  same : fold (entry or_table) l.joined (drop l.value-index l.values) ≡ fold (entry or_table) no l.values;
  well : IsWellMade l.joined;
}
