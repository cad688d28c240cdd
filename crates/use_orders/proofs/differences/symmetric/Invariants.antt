use Rattle.std.proofs.Common.{length, ◌-◌, ◌≡◌, ◌++◌, ◌+◌, ◌≤◌, drop}
use Rattle.use_orders.specs.Walks.{apart}
use Rattle.use_orders.proofs.differences.symmetric.Given as goal

abbrev pub invariant-walk : goal.invariant-walk
invariant-walk g l = record {
  same : l.out.items ++ apart g.T.Ord.cmp (drop l.i l.a) (drop l.j l.b) ≡ apart g.T.Ord.cmp l.a l.b;
  in_a : l.i ≤ length l.a;
  in_b : l.j ≤ length l.b;
}

abbrev pub decreases-walk : goal.decreases-walk
decreases-walk g l = (length l.a + length l.b) - (l.i + l.j)
