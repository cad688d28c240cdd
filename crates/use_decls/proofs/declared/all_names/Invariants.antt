use Rattle.std.proofs.Common.{◌≡◌, ◌++◌, map}
use Rattle.use_decls.specs.Names.{name_at}
use Rattle.use_decls.proofs.declared.all_names.Given as goal

abbrev pub invariant-nodes : goal.invariant-nodes
invariant-nodes l = record {
  can : (goal.iterator-nodes).can_next l.node-iterator;
  ends : (goal.iterator-nodes).is_finite l.node-iterator;
  so_far : l.names.items ++ map (name_at l.lexed) l.node-iterator ≡ map (name_at l.lexed) l.fn.nodes;
}
