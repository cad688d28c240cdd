use Rattle.std.proofs.Common.{◌++◌, inl, inr, ap, sym, ◌∙◌, append-nil, drop_of_length-le, drop}
use Rattle.use_orders.proofs.Shared.{ended}
use Rattle.use_orders.proofs.overlap.common.Goals as goal
use Rattle.use_orders.proofs.overlap.common.Goals.{then-walk-test+else-j-b, else-walk-test}

pub returns : goal.returns
returns g c =
    sym (append-nil c.walk.out.items)
    ∙ ap (λ l. c.walk.out.items ++ l) (sym (ended g.T.Ord.cmp (drop c.walk.i c.args.a.now) (drop c.walk.j c.args.b.now)
    (elim c.walk-test.branch [
      | then-walk-test+else-j-b w ↦ inr (drop_of_length-le c.args.b.now w.if-j-b.false)
      | else-walk-test w ↦ inl (drop_of_length-le c.args.a.now w.walk-test.false)
    ])))
    ∙ c.walk.invariant.same
