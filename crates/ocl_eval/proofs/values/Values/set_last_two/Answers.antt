use Rattle.std.proofs.Common.{◌-◌, arith}
use Rattle.ocl_eval.proofs.Fronts.{last_two_set}
use Rattle.ocl_eval.proofs.values.Values.set_last_two.Goals as goal

pub returns : goal.returns
returns c =
    let some = rw (← c.self.view_is) at c.requires.some in
    rw (← c.self.view_is) (last_two_set c.self.inside.items.items (c.len-at.result - 1 - 1) (c.len-at.result - 1) c.args.before c.args.last some
    (omega (arith, c.len-at.ensures)) (omega (arith, c.len-at.ensures)))
