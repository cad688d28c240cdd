use Rattle.std.proofs.Common.{◌∙◌}
use Rattle.use_orders.proofs.Found.{found_is_has}
use Rattle.use_orders.proofs.searches.contains.Goals as goal

pub returns : goal.returns
returns g c =
    c.is_ok.ensures.value
    ∙ found_is_has g.met.T.Ord.total c.args.items.now c.args.x.now c.binary_search.result c.requires.sorted c.binary_search.ensures.bound
    c.binary_search.ensures.position
