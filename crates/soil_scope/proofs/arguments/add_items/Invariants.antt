use Rattle.std.proofs.Common.{◌≡◌, ◌++◌}
use Rattle.std.specs.List.{filter_map}
use Rattle.soil_scope.specs.Arguments.{item_at}
use Rattle.soil_scope.proofs.arguments.add_items.Given as goal

abbrev pub invariant-items : goal.invariant-items
invariant-items l = record {
  can : (goal.iterator-items).can_next l.node-iterator;
  ends : (goal.iterator-items).is_finite l.node-iterator;
  so_far : l.arguments.items ++ filter_map (item_at l.lexed) l.node-iterator ≡ l.fn.arguments.items ++ filter_map (item_at l.lexed) l.fn.nodes;
}
