use Rattle.std.proofs.Common.{◌≡◌, drop, fold}
use Rattle.ocl_values.specs.Logic.{and_table, entry, yes}
use Rattle.ocl_values.specs.Shape.{IsWellMade}
use Rattle.ocl_operations.proofs.iterators.all_of.Given as goal

abbrev pub invariant-each : goal.invariant-each
invariant-each l = record {
  same : fold (entry and_table) l.joined (drop l.value-index l.values) ≡ fold (entry and_table) yes l.values;
  well : IsWellMade l.joined;
}
