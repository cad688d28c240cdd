use Rattle.std.proofs.Common.{◌++◌, [], ap, sym, ◌∙◌}
use Rattle.std.specs.List.{cons_option, filter_map}
use Rattle.use_decls.specs.Conds.{contract_part, op_at}
use Rattle.use_decls.proofs.Stepwise.{filter_map_step}
use Rattle.use_decls.proofs.conds.add_contracts.Goals as goal

pub nodes-preserved : goal.nodes-preserved
nodes-preserved c =
    let f = contract_part c.args.lexed.now c.args.class.now (op_at c.args.lexed.now c.args.oper.now) in
    let rest = c.next.new.self in
    record {
      can = tt;
      ends = tt;
      so_far =
          ap (λ l. l ++ filter_map f rest) (c.in_ok-push_some.ensures ∙ ap (λ o. c.nodes.found.items ++ cons_option o []) c.in_ok-part.ensures)
          ∙ filter_map_step f c.nodes.found.items c.in-Some.node rest
          ∙ ap (λ l. c.nodes.found.items ++ filter_map f l) (sym c.in-Some.ensures.steps)
          ∙ c.nodes.invariant.so_far;
    }
