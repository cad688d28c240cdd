use Rattle.std.proofs.Common.{◌++◌, [], ap, sym, ◌∙◌}
use Rattle.std.specs.List.{cons_option, filter_map}
use Rattle.soil_scope.specs.Arguments.{item_at}
use Rattle.soil_scope.proofs.Stepwise.{filter_map_step}
use Rattle.soil_scope.proofs.arguments.add_items.Goals as goal

pub items-preserved : goal.items-preserved
items-preserved c =
    let f = item_at c.args.lexed.now in
    let rest = c.next.new.self in
    record {
      can = tt;
      ends = tt;
      so_far =
          ap (λ l. l ++ filter_map f rest) (c.in_ok-push_some.ensures ∙ ap (λ o. c.items.arguments.items ++ cons_option o []) c.in_ok-argument.ensures)
          ∙ filter_map_step f c.items.arguments.items c.in-Some.node rest
          ∙ ap (λ l. c.items.arguments.items ++ filter_map f l) (sym c.in-Some.ensures.steps)
          ∙ c.items.invariant.so_far;
    }
