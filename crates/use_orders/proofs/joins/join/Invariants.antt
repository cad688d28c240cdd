use Rattle.std.proofs.Common.{length, ◌-◌, ◌≡◌, ◌++◌, ◌+◌, ◌≤◌, drop}
use Rattle.use_orders.specs.Canon.{bag_of}
use Rattle.use_orders.proofs.joins.join.Given as goal

abbrev pub invariant-join : goal.invariant-join
invariant-join g l = record {
  same : l.out.items ++ bag_of g.T.Ord.cmp (drop l.i l.a ++ drop l.j l.b) ≡ bag_of g.T.Ord.cmp (l.a ++ l.b);
  in_a : l.i ≤ length l.a;
  in_b : l.j ≤ length l.b;
}

abbrev pub decreases-join : goal.decreases-join
decreases-join g l = (length l.a + length l.b) - (l.i + l.j)
