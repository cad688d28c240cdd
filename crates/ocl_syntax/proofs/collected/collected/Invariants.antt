use Rattle.std.proofs.Common.{◌≡◌, ◌++◌}
use Rattle.ocl_syntax.proofs.collected.collected.Given as goal

abbrev pub invariant-nodes : goal.invariant-nodes
invariant-nodes l = record {
  can : (goal.iterator-nodes).can_next l.node-iterator;
  ends : (goal.iterator-nodes).is_finite l.node-iterator;
  so_far : l.found.items ++ l.node-iterator ≡ l.fn.nodes;
}
