use Rattle.std.proofs.Common.{◌≡◌, ◌++◌, drop}
use Rattle.object_references.specs.References.{all_without}
use Rattle.object_references.proofs.without.+without.Given as goal

abbrev pub invariant-all_without-values : goal.invariant-all_without-values
invariant-all_without-values l = l.rest.items ++ all_without l.object (drop l.value-index l.values) ≡ all_without l.object l.values
