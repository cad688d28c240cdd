use Rattle.std.proofs.Common.{◌≡◌, drop, min, ◌+◌, ◌-◌, ◌^◌, ◌<◌}
use Rattle.ocl_values.specs.Shape.{sizes_of}
use Rattle.ocl_values.proofs.shape.+size.Given as goal

abbrev pub invariant-sizes-add : goal.invariant-sizes-add
invariant-sizes-add l = record {
  sum : min (l.sum + sizes_of (drop l.v-index l.all)) (2 ^ 64 - 1) ≡ min (sizes_of l.all) (2 ^ 64 - 1);
  fits : l.sum < 2 ^ 64;
}
