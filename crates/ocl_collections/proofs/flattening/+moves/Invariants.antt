use Rattle.std.proofs.Common.{◌≡◌, ◌++◌, ◌+◌, ◌*◌}
use Rattle.std.specs.Vec.Iter.{into_iter_items}
use Rattle.ocl_values.specs.Shape.{size_of, sizes_of}
use Rattle.ocl_collections.specs.Flattening.{all_leaves}
use Rattle.ocl_collections.proofs.flattening.+moves.Given as goal

abbrev pub decreases-move_all_leaves : goal.decreases-move_all_leaves
decreases-move_all_leaves l = 2 * sizes_of l.all.items + 1

abbrev pub decreases-move_leaves : goal.decreases-move_leaves
decreases-move_leaves l = 2 * size_of l.v

abbrev pub invariant-move_all_leaves-each : goal.invariant-move_all_leaves-each
invariant-move_all_leaves-each l = record {
  whole : l.fn.all.items ≡ l.yielded ++ into_iter_items l.v-iterator;
  out : l.out.items ≡ l.initial.out.items ++ all_leaves l.yielded;
}
