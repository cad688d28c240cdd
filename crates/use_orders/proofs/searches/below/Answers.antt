use Rattle.std.proofs.Common.{is_lt, rules}
use Rattle.std.proofs.lemmas.List.Sorted.{IsPartitionPoint-from_clause}
use Rattle.use_orders.proofs.Points.{point_is_count, low_front}
use Rattle.use_orders.proofs.searches.below.Goals as goal

pub returns : goal.returns
returns g c =
    let test = λ (y : g.row.T.Denot). is_lt (g.T.Ord.cmp y c.args.x.now) in
    point_is_count test c.args.items.now c.partition_point.result c.partition_point.ensures.bound
    (IsPartitionPoint-from_clause test c.args.items.now c.partition_point.result c.partition_point.ensures.partitioned
    (low_front g.met.T.Ord.total c.args.items.now c.args.x.now c.requires.sorted) (λ a r q k. search rules))
