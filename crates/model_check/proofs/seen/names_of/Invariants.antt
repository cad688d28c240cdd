use Rattle.std.proofs.Common.{◌≡◌, ◌++◌}
use Rattle.std.specs.List.{filter_map}
use Rattle.model_check.specs.Seen.{param_name}
use Rattle.model_check.proofs.seen.names_of.Given as goal

abbrev pub invariant-nodes : goal.invariant-nodes
invariant-nodes l = record {
  can : (goal.iterator-nodes).can_next l.node-iterator;
  ends : (goal.iterator-nodes).is_finite l.node-iterator;
  so_far : l.names.items ++ filter_map (param_name l.lexed) l.node-iterator ≡ filter_map (param_name l.lexed) l.fn.nodes;
}
