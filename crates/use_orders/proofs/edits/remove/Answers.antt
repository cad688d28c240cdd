use Rattle.std.proofs.Common.{IfOk, ◌≡◌, subst}
use Rattle.use_orders.proofs.Placed.{taken_out}
use Rattle.use_orders.proofs.edits.remove.Goals as goal

pub returns : goal.returns
returns g c =
    subst (λ l. IfOk c.without_range.result (λ v. v.items ≡ l))
    (taken_out g.met.T.Ord.total c.args.items.now c.args.x.now c.below.result c.up_to.result c.requires.sorted c.below.ensures c.up_to.ensures)
    c.without_range.ensures
