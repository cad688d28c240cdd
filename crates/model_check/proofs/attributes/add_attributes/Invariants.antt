use Rattle.std.proofs.Common.{◌≡◌}
use Rattle.model_check.specs.Adding.{each_added}
use Rattle.model_check.specs.Walk.{attribute, reading}
use Rattle.model_check.proofs.attributes.add_attributes.Given as goal

abbrev pub invariant-nodes : goal.invariant-nodes
invariant-nodes l = record {
  can : (goal.iterator-nodes).can_next l.node-iterator;
  ends : (goal.iterator-nodes).is_finite l.node-iterator;
  so_far : each_added (attribute (reading l.source) l.class) l.found l.node-iterator ≡ each_added (attribute (reading l.source) l.class) l.fn.found l.fn.nodes;
}
