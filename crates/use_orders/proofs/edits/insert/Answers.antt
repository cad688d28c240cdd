use Rattle.std.proofs.Common.{IfOk, ◌≡◌, subst, is_lt}
use Rattle.std.specs.List.{count_by}
use Rattle.use_orders.proofs.Placed.{bag_put}
use Rattle.use_orders.proofs.edits.insert.Goals as goal

pub returns : goal.returns
returns g c =
    let below = subst (λ l. c.below-n.result ≡ count_by (λ y. is_lt (g.T.Ord.cmp y c.args.x)) l) c.as_slice.ensures.value c.below-n.ensures in
    subst (λ l. IfOk c.put_at.result (λ v. v.items ≡ l))
    (bag_put g.met.T.Ord.total c.requires.exact c.args.items.items c.args.x c.below-n.result c.requires.sorted below) c.put_at.ensures
