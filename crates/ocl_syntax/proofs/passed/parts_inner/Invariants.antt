use Rattle.std.proofs.Common.{◌≡◌, ◌++◌, flat_map}
use Rattle.ocl_syntax.specs.Layers.{part_inner}
use Rattle.ocl_syntax.proofs.passed.parts_inner.Given as goal

abbrev pub invariant-parts : goal.invariant-parts
invariant-parts l = record {
  can : (goal.iterator-parts).can_next l.node-iterator;
  ends : (goal.iterator-parts).is_finite l.node-iterator;
  so_far : l.found.items ++ flat_map part_inner l.node-iterator ≡ flat_map part_inner l.fn.parts;
}
