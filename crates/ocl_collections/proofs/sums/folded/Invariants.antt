use Rattle.std.proofs.Common.{◌≡◌, drop, fold}
use Rattle.ocl_values.specs.Integers.{int_op_value}
use Rattle.ocl_collections.proofs.sums.folded.Given as goal

abbrev pub invariant-join : goal.invariant-join
invariant-join l = fold (int_op_value l.op) l.total (drop l.v-index l.items) ≡ fold (int_op_value l.op) l.initial.total l.items
