use Rattle.std.proofs.Common.{◌≡◌, ◌++◌, map}
use Rattle.ocl_syntax.specs.Layers.{part_head}
use Rattle.ocl_syntax.proofs.passed.part_heads.Given as goal

abbrev pub invariant-parts : goal.invariant-parts
invariant-parts l = record {
  can : (goal.iterator-parts).can_next l.node-iterator;
  ends : (goal.iterator-parts).is_finite l.node-iterator;
  so_far : l.found.items ++ map (part_head l.lexed) l.node-iterator ≡ map (part_head l.lexed) l.fn.parts;
}
