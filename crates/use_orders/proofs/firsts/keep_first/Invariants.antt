use Rattle.std.proofs.Common.{◌≡◌, ◌++◌, length}
use Rattle.std.specs.Vec.Iter.{into_iter_items}
use Rattle.use_orders.specs.Canon.{firsts_of}
use Rattle.use_orders.proofs.firsts.keep_first.Given as goal

abbrev pub invariant-keep : goal.invariant-keep
invariant-keep g l = record {
  at : l.i ≡ length l.yielded;
  whole : l.fn.items.items ≡ l.yielded ++ into_iter_items l.x-iterator;
  out : l.out.items ≡ firsts_of g.T.Ord.cmp l.yielded;
}
