use Rattle.std.proofs.Common.{◌≡◌, drop, min, ◌+◌, ◌-◌, ◌^◌, ◌<◌}
use Rattle.ocl_values.specs.Shape.{sizes_of}
use Rattle.ocl_eval.proofs.parts.sizes.Given as goal

abbrev pub invariant-add : goal.invariant-add
invariant-add l = record {
  sum : min (l.sum + sizes_of (drop l.value-index l.all)) (2 ^ 64 - 1) ≡ min (sizes_of l.all) (2 ^ 64 - 1);
  fits : l.sum < 2 ^ 64;
}
