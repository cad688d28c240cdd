use Rattle.std.proofs.Common.{◌++◌, length, ap, sym, ◌∙◌}
use Rattle.std.specs.List.{flat_map}
use Rattle.use_decls.specs.Conds.{behind_heads, context_conds, heads_in}
use Rattle.use_decls.proofs.Stepwise.{behind_step, flat_map_step}
use Rattle.use_decls.proofs.conds.add_contexts_conds.Goals as goal

pub nodes-preserved : goal.nodes-preserved
nodes-preserved c =
    let h = heads_in c.args.lexed.now in
    let f = context_conds c.args.lexed.now in
    let rest = c.next.new.self in
    let heads = c.in_ok-add_context_conds.ensures.heads in
    record {
      can = tt;
      ends = tt;
      so_far =
          ap (λ l. l ++ behind_heads h f (length c.add_context_conds.new.heads) rest) c.in_ok-add_context_conds.ensures.conds
          ∙ behind_step h f c.nodes.found.items c.nodes.heads c.add_context_conds.new.heads c.in-Some.node rest heads
          ∙ ap (λ l. c.nodes.found.items ++ behind_heads h f (length c.nodes.heads) l) (sym c.in-Some.ensures.steps)
          ∙ c.nodes.invariant.so_far;
      named =
          ap (λ l. l ++ flat_map h rest) heads
          ∙ flat_map_step h c.nodes.heads c.in-Some.node rest
          ∙ ap (λ l. c.nodes.heads ++ flat_map h l) (sym c.in-Some.ensures.steps)
          ∙ c.nodes.invariant.named;
    }
