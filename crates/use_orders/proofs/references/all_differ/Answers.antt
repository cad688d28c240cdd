use Rattle.std.proofs.Common.{◌∙◌, ap, sym, not}
use Rattle.use_orders.proofs.Places.{marked_more}
use Rattle.use_orders.proofs.Referenced.{still_differ, tie_found}
use Rattle.use_orders.proofs.references.all_differ.Goals as goal

pub each-preserved : goal.each-preserved
each-preserved g c = record {
  seen =
      marked_more g.met.T.Ord.total c.args.items.now c.each.x-index c.each.seen.keys _ _ c.each-test.true c.x-item.is c.in_ok-insert.ensures.keys
      c.each.invariant.seen;
  differ =
      still_differ g.T.Ord.cmp g.met.T.Ord.total c.args.items.now c.each.x-index c.x-item.result c.each-test.true c.x-item.is c.each.invariant.differ
      (sym (c.in_ok-insert.ensures.added ∙ ap not (c.each.invariant.seen c.x-item.result)) ∙ c.if-not-branch.false);
}

pub returns-then-not-branch : goal.returns-then-not-branch
returns-then-not-branch g c =
    sym (tie_found g.T.Ord.cmp g.met.T.Ord.total c.args.items.now c.each.x-index c.x-item.result c.each-test.true c.x-item.is
    (sym (c.in_ok-insert.ensures.added ∙ ap not (c.each.invariant.seen c.x-item.result)) ∙ c.if-not-branch.true))
