use Rattle.std.proofs.Common.{◌≡◌, ◌++◌}
use Rattle.std.specs.Vec.Iter.{into_iter_items}
use Rattle.object_referrers.specs.Places.{Forgets}
use Rattle.object_referrers.proofs.referrers.take_all.Given as goal

abbrev pub invariant-keys : goal.invariant-keys
invariant-keys g l = record {
  whole : l.fn.keys.items ≡ l.yielded ++ into_iter_items l.key-iterator;
  rest : Forgets g.K.Ord.cmp l.yielded l.fn.index.keys l.index.keys;
}
