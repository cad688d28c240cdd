use Rattle.std.proofs.Common.{◌≡◌, ◌++◌, flat_map}
use Rattle.ocl_syntax.specs.Layers.{item_inner}
use Rattle.ocl_syntax.proofs.passed.items_inner.Given as goal

abbrev pub invariant-items : goal.invariant-items
invariant-items l = record {
  can : (goal.iterator-items).can_next l.node-iterator;
  ends : (goal.iterator-items).is_finite l.node-iterator;
  so_far : l.found.items ++ flat_map item_inner l.node-iterator ≡ flat_map item_inner l.fn.items;
}
