use Rattle.std.proofs.Common.{◌≡◌}
use Rattle.model_check.specs.Adding.{each_added}
use Rattle.model_check.specs.Walk.{contract, reading}
use Rattle.model_check.proofs.contracts.add_contracts.Given as goal

abbrev pub invariant-nodes : goal.invariant-nodes
invariant-nodes l = record {
  can : (goal.iterator-nodes).can_next l.node-iterator;
  ends : (goal.iterator-nodes).is_finite l.node-iterator;
  so_far : each_added (contract (reading l.source) l.op l.names) l.found l.node-iterator ≡ each_added (contract (reading l.source) l.op l.names) l.fn.found l.fn.nodes;
}
