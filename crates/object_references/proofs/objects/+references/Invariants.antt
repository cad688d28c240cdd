use Rattle.std.proofs.Common.{◌≡◌, ◌++◌, drop}
use Rattle.object_references.specs.References.{all_references}
use Rattle.object_references.proofs.objects.+references.Given as goal

abbrev pub invariant-add_all_references-values : goal.invariant-add_all_references-values
invariant-add_all_references-values l = l.found.items ++ all_references (drop l.value-index l.values) ≡ l.fn.found.items ++ all_references l.values
