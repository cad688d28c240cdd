use Rattle.std.proofs.Common.{◌≡◌, ◌++◌, length}
use Rattle.std.specs.List.{flat_map}
use Rattle.use_decls.specs.Conds.{behind_heads, context_conds, heads_in}
use Rattle.use_decls.proofs.conds.add_contexts_conds.Given as goal

abbrev pub invariant-nodes : goal.invariant-nodes
invariant-nodes l = record {
  can : (goal.iterator-nodes).can_next l.node-iterator;
  ends : (goal.iterator-nodes).is_finite l.node-iterator;
  so_far : l.found.items ++ behind_heads (heads_in l.lexed) (context_conds l.lexed) (length l.heads) l.node-iterator
      ≡ l.fn.found.items ++ behind_heads (heads_in l.lexed) (context_conds l.lexed) (length l.fn.heads) l.fn.nodes;
  named : l.heads ++ flat_map (heads_in l.lexed) l.node-iterator ≡ l.fn.heads ++ flat_map (heads_in l.lexed) l.fn.nodes;
}
