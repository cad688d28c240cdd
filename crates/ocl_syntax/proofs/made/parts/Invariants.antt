use Rattle.std.proofs.Common.{◌≡◌, ◌++◌}
use Rattle.std.specs.Vec.Iter.{into_iter_items}
use Rattle.ocl_syntax.specs.Made.{parts}
use Rattle.ocl_syntax.proofs.made.parts.Given as goal

abbrev pub invariant-heads : goal.invariant-heads
invariant-heads l = l.found.items ++ parts (into_iter_items l.head-iterator) l.made ≡ parts l.fn.heads l.fn.made
