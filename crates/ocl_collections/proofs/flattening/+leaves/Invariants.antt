use Rattle.std.proofs.Common.{◌≡◌, ◌++◌, drop}
use Rattle.ocl_collections.specs.Flattening.{all_leaves}
use Rattle.ocl_collections.proofs.flattening.+leaves.Given as goal

abbrev pub invariant-append_all_leaves-each : goal.invariant-append_all_leaves-each
invariant-append_all_leaves-each l = l.out.items ++ all_leaves (drop l.v-index l.all) ≡ l.initial.out.items ++ all_leaves l.all
