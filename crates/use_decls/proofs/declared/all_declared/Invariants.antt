use Rattle.std.proofs.Common.{◌≡◌, ◌++◌}
use Rattle.std.specs.List.{filter_map}
use Rattle.use_decls.proofs.declared.all_declared.Given as goal

abbrev pub invariant-nodes : goal.invariant-nodes
invariant-nodes g l = record {
  can : (goal.iterator-nodes g).can_next l.node-iterator;
  ends : (goal.iterator-nodes g).is_finite l.node-iterator;
  so_far : l.items.items ++ filter_map (g.T.Declared.declared_by l.lexed) l.node-iterator ≡ filter_map (g.T.Declared.declared_by l.lexed) l.fn.nodes;
}
