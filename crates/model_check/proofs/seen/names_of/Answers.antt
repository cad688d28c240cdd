use Rattle.std.proofs.Common.{◌++◌, [], ap, sym, ◌∙◌}
use Rattle.std.specs.List.{cons_option, filter_map}
use Rattle.soil_scope.proofs.Stepwise.{filter_map_step}
use Rattle.model_check.specs.Seen.{param_name}
use Rattle.model_check.proofs.seen.names_of.Goals as goal

pub nodes-preserved : goal.nodes-preserved
nodes-preserved c =
    let f = param_name c.args.lexed.now in
    let rest = c.next.new.self in
    record {
      can = tt;
      ends = tt;
      so_far =
          ap (λ l. l ++ filter_map f rest) (c.in_ok-push_some.ensures ∙ ap (λ o. c.nodes.names.items ++ cons_option o []) c.in_ok-name.ensures)
          ∙ filter_map_step f c.nodes.names.items c.in-Some.node rest
          ∙ ap (λ l. c.nodes.names.items ++ filter_map f l) (sym c.in-Some.ensures.steps)
          ∙ c.nodes.invariant.so_far;
    }
