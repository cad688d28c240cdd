use Rattle.std.proofs.Common.{inl, inr}
use Rattle.use_orders.proofs.Apart.{rest_apart}
use Rattle.use_orders.proofs.differences.symmetric.Goals as goal
use Rattle.use_orders.proofs.differences.symmetric.Goals.{then-walk-test+else-j-b, else-walk-test}

pub returns : goal.returns
returns g c =
    rest_apart g.met.T.Ord.total c.requires.exact c.args.a.now c.args.b.now _ _ _ _ c.walk.i c.walk.j
    c.requires.first c.requires.second c.in_ok-append_copies.ensures c.in_ok-append_copies-2.ensures
    (elim c.walk-test.branch [ then-walk-test+else-j-b w ↦ inr w.if-j-b.false | else-walk-test w ↦ inl w.walk-test.false ])
    c.walk.invariant.same
