use Rattle.std.proofs.Common.{◌≡◌, ◌++◌}
use Rattle.std.specs.Vec.Iter.{into_iter_items}
use Rattle.use_orders.specs.Canon.{without}
use Rattle.object_referrers.proofs.referrers.only_in.Given as goal

abbrev pub invariant-old : goal.invariant-old
invariant-old g l = record {
  whole : l.fn.old.items ≡ l.yielded ++ into_iter_items l.key-iterator;
  left : l.left.items ≡ without g.K.Ord.cmp l.yielded l.new;
}
