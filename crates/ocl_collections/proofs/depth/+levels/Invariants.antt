use Rattle.std.proofs.Common.{◌≡◌, ◌+◌, drop, min, max, ◌≤◌}
use Rattle.ocl_values.specs.Shape.{most_levels, max_levels}
use Rattle.ocl_collections.proofs.depth.+levels.Given as goal

abbrev pub invariant-most-look : goal.invariant-most-look
invariant-most-look l = record {
  most : min (max l.deepest (most_levels (drop l.v-index l.all))) (max_levels + 1) ≡ min (most_levels l.all) (max_levels + 1);
  fits : l.deepest ≤ max_levels + 1;
}
