use Rattle.use_orders.proofs.Places.{marked_more}
use Rattle.use_orders.proofs.references.ordered.Goals as goal

pub each-preserved : goal.each-preserved
each-preserved g c =
    marked_more g.met.T.Ord.total c.args.items.now c.each.x-index c.each.seen.keys _ _ c.each-test.true c.x-item.is c.in_ok-_new.ensures.keys c.each.invariant
