use Rattle.std.proofs.Common.{◌≡◌, ◌++◌}
use Rattle.std.specs.List.{flat_map}
use Rattle.use_decls.specs.Conds.{oper_conds}
use Rattle.use_decls.proofs.conds.add_opers_conds.Given as goal

abbrev pub invariant-nodes : goal.invariant-nodes
invariant-nodes l = record {
  can : (goal.iterator-nodes).can_next l.node-iterator;
  ends : (goal.iterator-nodes).is_finite l.node-iterator;
  so_far : l.found.items ++ flat_map (oper_conds l.lexed l.class) l.node-iterator ≡ l.fn.found.items ++ flat_map (oper_conds l.lexed l.class) l.fn.nodes;
}
