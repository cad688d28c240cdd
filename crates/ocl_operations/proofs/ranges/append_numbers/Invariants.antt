use Rattle.std.proofs.Common.{◌≡◌, ◌++◌, map, pos, ◌+ℤ◌}
use Rattle.std.specs.List.{range_with_len}
use Rattle.ocl_values.specs.declared.value.Value.TheVariants.{Int}
use Rattle.ocl_operations.proofs.ranges.append_numbers.Given as goal

abbrev pub invariant-each : goal.invariant-each
invariant-each l = l.out.items ≡ l.fn.out.items ++ map (λ k. Int (l.a +ℤ pos k)) (range_with_len 0 l.above)
