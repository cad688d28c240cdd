use Rattle.std.proofs.Common.{length, ◌-◌, ◌≡◌, ◌++◌, ◌+◌, ◌≤◌, drop, true}
use Rattle.std.specs.Set.{sorted_merge}
use Rattle.use_orders.proofs.merges.merge.Given as goal

abbrev pub invariant-merge : goal.invariant-merge
invariant-merge g l = record {
  same : l.out.items ++ sorted_merge g.T.Ord.cmp true (drop l.i l.a) (drop l.j l.b) ≡ sorted_merge g.T.Ord.cmp true l.a l.b;
  in_a : l.i ≤ length l.a;
  in_b : l.j ≤ length l.b;
}

abbrev pub decreases-merge : goal.decreases-merge
decreases-merge g l = (length l.a + length l.b) - (l.i + l.j)
