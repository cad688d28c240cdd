use Rattle.std.proofs.Common.{◌≡◌, ◌++◌}
use Rattle.std.specs.List.{filter_map}
use Rattle.use_decls.specs.Conds.{contract_part, op_at}
use Rattle.use_decls.proofs.conds.add_contracts.Given as goal

abbrev pub invariant-nodes : goal.invariant-nodes
invariant-nodes l = record {
  can : (goal.iterator-nodes).can_next l.node-iterator;
  ends : (goal.iterator-nodes).is_finite l.node-iterator;
  so_far : l.found.items ++ filter_map (contract_part l.lexed l.class (op_at l.lexed l.oper)) l.node-iterator
      ≡ l.fn.found.items ++ filter_map (contract_part l.lexed l.class (op_at l.lexed l.oper)) l.fn.nodes;
}
