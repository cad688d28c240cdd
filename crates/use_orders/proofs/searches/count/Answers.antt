use Rattle.std.proofs.Common.{arith}
use Rattle.use_orders.proofs.Points.{ties_between}
use Rattle.use_orders.proofs.searches.count.Goals as goal

pub overflow_sub-result : goal.overflow_sub-result
overflow_sub-result g c =
    let all = ties_between g.met.T.Ord.total c.args.items.now c.args.x.now in
    omega (arith, all, c.up_to.ensures, c.below.ensures)

pub returns : goal.returns
returns g c =
    let all = ties_between g.met.T.Ord.total c.args.items.now c.args.x.now in
    omega (arith, all, c.up_to.ensures, c.below.ensures)
