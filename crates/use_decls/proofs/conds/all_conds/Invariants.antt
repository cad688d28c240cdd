use Rattle.std.proofs.Common.{◌≡◌, ◌++◌, length}
use Rattle.std.specs.List.{flat_map}
use Rattle.use_decls.specs.Conds.{behind_heads, conds_at, heads_at}
use Rattle.use_decls.proofs.conds.all_conds.Given as goal

abbrev pub invariant-nodes : goal.invariant-nodes
invariant-nodes l = record {
  can : (goal.iterator-nodes).can_next l.node-iterator;
  ends : (goal.iterator-nodes).is_finite l.node-iterator;
  so_far : l.found.items ++ behind_heads (heads_at l.lexed) (conds_at l.lexed) (length l.heads) l.node-iterator
      ≡ behind_heads (heads_at l.lexed) (conds_at l.lexed) (length l.fn.heads) l.fn.nodes;
  named : l.heads ++ flat_map (heads_at l.lexed) l.node-iterator ≡ l.fn.heads ++ flat_map (heads_at l.lexed) l.fn.nodes;
}
