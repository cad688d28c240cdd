use Rattle.std.proofs.Common.{◌++◌, ap, sym, ◌∙◌}
use Rattle.std.specs.List.{flat_map}
use Rattle.use_decls.specs.Conds.{oper_conds}
use Rattle.use_decls.proofs.Stepwise.{flat_map_step}
use Rattle.use_decls.proofs.conds.add_opers_conds.Goals as goal

pub nodes-preserved : goal.nodes-preserved
nodes-preserved c =
    let f = oper_conds c.args.lexed.now c.args.class.now in
    let rest = c.next.new.self in
    record {
      can = tt;
      ends = tt;
      so_far =
          ap (λ l. l ++ flat_map f rest) (c.in_ok-add_oper_conds.ensures)
          ∙ flat_map_step f c.nodes.found.items c.in-Some.node rest
          ∙ ap (λ l. c.nodes.found.items ++ flat_map f l) (sym c.in-Some.ensures.steps)
          ∙ c.nodes.invariant.so_far;
    }
