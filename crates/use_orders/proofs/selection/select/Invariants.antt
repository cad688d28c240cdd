use Rattle.std.proofs.Common.{◌≡◌, ◌++◌, length, take}
use Rattle.std.specs.Vec.Iter.{into_iter_items}
use Rattle.use_orders.specs.Canon.{selected}
use Rattle.use_orders.proofs.selection.select.Given as goal

abbrev pub invariant-pick : goal.invariant-pick
invariant-pick g l = record {
  at : l.i ≡ length l.yielded;
  whole : l.fn.items.items ≡ l.yielded ++ into_iter_items l.x-iterator;
  out : l.out.items ≡ selected l.yielded (take l.i l.flags);
}
