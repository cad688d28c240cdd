use Rattle.std.proofs.Common.{◌≡◌, ◌++◌, map}
use Rattle.std.specs.Vec.Iter.{into_iter_items}
use Rattle.use_orders.specs.Canon.{bag_of}
use Rattle.use_orders.proofs.keyed.by_keys.Given as goal

abbrev pub invariant-take : goal.invariant-take
invariant-take g l = record {
  whole : bag_of (λ a b. g.K.Ord.cmp a.key b.key) l.fn.pairs.items ≡ l.yielded ++ into_iter_items l.pair-iterator;
  out : l.out.items ≡ map (λ p. p.item) l.yielded;
}
