use Rattle.std.proofs.Common.{◌≡◌, ◌++◌, map, length}
use Rattle.std.specs.List.{zip}
use Rattle.std.specs.Vec.Iter.{into_iter_items, into_iter_len}
use Rattle.use_orders.proofs.keyed.beside.Given as goal

abbrev pub invariant-pair : goal.invariant-pair
invariant-pair g l = record {
  whole : zip l.fn.keys.items l.fn.items.items ≡ l.yielded ++ zip (into_iter_items l.key-iterator.a) (into_iter_items l.key-iterator.b);
  first : into_iter_len l.key-iterator.a ≡ length (into_iter_items l.key-iterator.a);
  second : into_iter_len l.key-iterator.b ≡ length (into_iter_items l.key-iterator.b);
  pairs : map (λ p. (p.key, p.item)) l.pairs.items ≡ l.yielded;
}
