use Rattle.std.proofs.Common.{◌≡◌, ◌++◌, map}
use Rattle.use_decls.specs.Names.{text_at}
use Rattle.soil_types.proofs.objects.texts.Given as goal

abbrev pub invariant-names : goal.invariant-names
invariant-names l = record {
  can : (goal.iterator-names).can_next l.node-iterator;
  ends : (goal.iterator-names).is_finite l.node-iterator;
  so_far : l.names ++ map (text_at l.lexed) l.node-iterator ≡ map (text_at l.lexed) l.fn.nodes;
}
