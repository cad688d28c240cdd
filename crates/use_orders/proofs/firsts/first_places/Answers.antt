use Rattle.std.proofs.Common.{ap, not, ◌∙◌, rules, length-append}
use Rattle.use_orders.proofs.Places.{marked_more, places_more}
use Rattle.use_orders.proofs.firsts.first_places.Goals as goal

pub mark-preserved : goal.mark-preserved
mark-preserved g c = record {
  len = search (rules, c.in_ok-push.ensures.items, c.mark.invariant.len, length-append);
  seen =
      marked_more g.met.T.Ord.total c.args.items.now c.mark.x-index c.mark.seen.keys _ _ c.mark-test.true c.x-item.is c.in_ok-insert.ensures.keys
      c.mark.invariant.seen;
  places =
      places_more g.met.T.Ord.total c.args.items.now c.mark.x-index c.mark.places.items _ c.in_ok-insert.field-0 c.x-item.result c.mark-test.true
      c.mark.invariant.len c.in_ok-push.ensures.items c.x-item.is (c.in_ok-insert.ensures.added ∙ ap not (c.mark.invariant.seen c.x-item.result))
      c.mark.invariant.places;
}
