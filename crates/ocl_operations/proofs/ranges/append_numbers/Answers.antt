use Rattle.ocl_operations.proofs.Numbers.{one_more}
use Rattle.ocl_operations.proofs.ranges.append_numbers.Goals as goal

pub each-preserved : goal.each-preserved
each-preserved c = one_more _ _ _ _ _ _ c.each.invariant c.in_ok-push.ensures.items c.number_above.ensures
