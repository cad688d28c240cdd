use Rattle.std.proofs.Common.{◌≡◌, ◌++◌, string_bytes}
use Rattle.std.specs.List.{flat_map}
use Rattle.use_decls.specs.Names.{text_at}
use Rattle.use_decls.proofs.assocs.add_texts.Given as goal

abbrev pub invariant-nodes : goal.invariant-nodes
invariant-nodes l = record {
  can : (goal.iterator-nodes).can_next l.node-iterator;
  ends : (goal.iterator-nodes).is_finite l.node-iterator;
  so_far : string_bytes l.text ++ flat_map (text_at l.lexed) l.node-iterator ≡ string_bytes l.fn.text ++ flat_map (text_at l.lexed) l.fn.nodes;
}
