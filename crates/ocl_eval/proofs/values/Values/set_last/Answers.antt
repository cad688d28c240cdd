use Rattle.std.proofs.Common.{◌-◌, arith}
use Rattle.ocl_eval.proofs.Fronts.{last_set}
use Rattle.ocl_eval.proofs.values.Values.set_last.Goals as goal

pub returns : goal.returns
returns c =
    let some = rw (← c.self.view_is) at c.requires.some in
    rw (← c.self.view_is) (last_set c.self.inside.items.items (c.len-last.result - 1) c.args.value some (omega (arith, c.len-last.ensures)))
