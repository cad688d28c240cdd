use Rattle.std.proofs.Common.{◌∙◌}
use Rattle.use_orders.proofs.Found.{any_is_has}
use Rattle.use_orders.proofs.searches.contains_anywhere.Goals as goal

pub returns : goal.returns
returns g c = c.contains.ensures.value ∙ any_is_has g.met.T.Ord.total g.met.T.Ord.matches_eq c.args.items.now c.args.x.now
