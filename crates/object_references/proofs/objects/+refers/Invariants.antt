use Rattle.std.proofs.Common.{◌≡◌, drop, nat_eq}
use Rattle.std.specs.List.{list_any}
use Rattle.object_references.specs.References.{all_references}
use Rattle.object_references.proofs.objects.+refers.Given as goal

abbrev pub invariant-any_refers_to-values : goal.invariant-any_refers_to-values
invariant-any_refers_to-values l = list_any (nat_eq l.object) (all_references l.values) ≡ list_any (nat_eq l.object) (all_references (drop l.value-index l.values))
