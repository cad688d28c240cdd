use Rattle.std.proofs.Common.{◌≡◌, ◌++◌}
use Rattle.std.specs.Vec.Iter.{into_iter_items}
use Rattle.ocl_syntax.specs.Made.{arguments}
use Rattle.ocl_syntax.proofs.made.arguments.Given as goal

abbrev pub invariant-heads : goal.invariant-heads
invariant-heads l = l.found.items ++ arguments (into_iter_items l.head-iterator) l.made ≡ arguments l.fn.heads l.fn.made
