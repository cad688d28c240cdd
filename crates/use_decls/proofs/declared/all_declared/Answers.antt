use Rattle.std.proofs.Common.{◌++◌, [], ap, sym, ◌∙◌}
use Rattle.std.specs.List.{cons_option, filter_map}
use Rattle.use_decls.proofs.Stepwise.{filter_map_step}
use Rattle.use_decls.proofs.declared.all_declared.Goals as goal

pub nodes-preserved : goal.nodes-preserved
nodes-preserved g c =
    let f = g.T.Declared.declared_by c.args.lexed.now in
    let rest = c.next.new.self in
    record {
      can = tt;
      ends = tt;
      so_far =
          ap (λ l. l ++ filter_map f rest) (c.in_ok-push_some.ensures ∙ ap (λ o. c.nodes.items.items ++ cons_option o []) c.in_ok-item.ensures)
          ∙ filter_map_step f c.nodes.items.items c.in-Some.node rest
          ∙ ap (λ l. c.nodes.items.items ++ filter_map f l) (sym c.in-Some.ensures.steps)
          ∙ c.nodes.invariant.so_far;
    }
