use Rattle.std.proofs.Common.{inl, inr}
use Rattle.use_orders.proofs.Joined.{joined}
use Rattle.use_orders.proofs.joins.join.Goals as goal
use Rattle.use_orders.proofs.joins.join.Goals.{then-join-test+else-j-b, else-join-test}

pub returns : goal.returns
returns g c =
    joined g.met.T.Ord.total c.args.a.now c.args.b.now _ _ _ _ c.join.i c.join.j c.requires.first c.requires.second c.in_ok-append_copies.ensures
    c.in_ok-append_copies-2.ensures
    (elim c.join-test.branch [ then-join-test+else-j-b w ↦ inr w.if-j-b.false | else-join-test w ↦ inl w.join-test.false ])
    c.join.invariant.same
