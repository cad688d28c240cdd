use Rattle.std.proofs.Common.{◌≡◌, drop, min, ◌+◌, ◌-◌, ◌^◌, ◌<◌}
use Rattle.std.specs.List.{sum_by}
use Rattle.std.specs.Map.{values_of}
use Rattle.object_state.specs.Weights.{variable_weight}
use Rattle.object_state.proofs.weights.variables_weight.Given as goal

abbrev pub invariant-add : goal.invariant-add
invariant-add l = record {
  sum : min (l.sum + sum_by variable_weight (values_of (drop l.entry-index l.variables))) (2 ^ 64 - 1) ≡ min (sum_by variable_weight (values_of l.variables))
      (2 ^ 64 - 1);
  fits : l.sum < 2 ^ 64;
}
