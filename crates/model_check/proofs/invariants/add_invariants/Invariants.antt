use Rattle.std.proofs.Common.{◌≡◌}
use Rattle.std.specs.Option.{option_copied}
use Rattle.model_check.specs.Adding.{each_added}
use Rattle.model_check.specs.Walk.{invariant, reading}
use Rattle.model_check.proofs.invariants.add_invariants.Given as goal

abbrev pub invariant-nodes : goal.invariant-nodes
invariant-nodes l = record {
  can : (goal.iterator-nodes).can_next l.node-iterator;
  ends : (goal.iterator-nodes).is_finite l.node-iterator;
  so_far : each_added (invariant (reading l.source) l.class (option_copied l.variable)) l.found l.node-iterator ≡ each_added (invariant (reading l.source) l.class (option_copied l.variable)) l.fn.found l.fn.nodes;
}
