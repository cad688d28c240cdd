use Rattle.std.proofs.Common.{◌≡◌, ◌++◌}
use Rattle.ocl_syntax.specs.Layers.{operators_of}
use Rattle.ocl_syntax.proofs.forms.operators_of.Given as goal

abbrev pub invariant-operators : goal.invariant-operators
invariant-operators l = record {
  can : (goal.iterator-operators).can_next l.operator-iterator;
  ends : (goal.iterator-operators).is_finite l.operator-iterator;
  so_far : l.found.items ++ operators_of l.operator-iterator l.operands ≡ operators_of l.fn.operators l.fn.operands;
}
