use Rattle.use_orders.proofs.Stable.{stable_from_sort}
use Rattle.use_orders.proofs.canon.bag.Goals as goal

pub returns : goal.returns
returns g c = stable_from_sort g.met.T.Ord.total _ _ c.in_ok-sort.ensures.sorted c.in_ok-sort.ensures.stable
