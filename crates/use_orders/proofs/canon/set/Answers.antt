use Rattle.std.proofs.lemmas.List.Filters.{dedup_is}
use Rattle.use_orders.proofs.Sets.{set_from_sort}
use Rattle.use_orders.proofs.canon.set.Goals as goal

pub returns : goal.returns
returns g c =
    set_from_sort g.met.T.Ord.total g.met.T.Ord.matches_eq c.requires.exact _ _ _ c.in_ok-sort.ensures.permutation c.in_ok-sort.ensures.sorted
    (dedup_is _ _ _ c.dedup.ensures.filtered)
