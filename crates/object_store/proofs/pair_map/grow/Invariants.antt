use Rattle.std.proofs.Common.{◌≡◌, ◌+◌, ◌-◌, length}
use Rattle.object_store.specs.Pairs.{pairs}
use Rattle.object_store.proofs.pair_map.grow.Given as goal

abbrev pub invariant-grow : goal.invariant-grow
invariant-grow g l = pairs 0 l.rows.items ≡ pairs 0 l.fn.rows.items

abbrev pub decreases-grow : goal.decreases-grow
decreases-grow g l = (l.first + 1) - length l.rows.items
