use Rattle.std.proofs.Common.{◌++◌, ◌∷◌, [], map, ap, sym, ◌∙◌}
use Rattle.use_decls.specs.Names.{name_at}
use Rattle.use_decls.proofs.Stepwise.{map_step}
use Rattle.use_decls.proofs.declared.all_names.Goals as goal

pub nodes-preserved : goal.nodes-preserved
nodes-preserved c =
    let f = name_at c.args.lexed.now in
    let rest = c.next.new.self in
    record {
      can = tt;
      ends = tt;
      so_far =
          ap (λ l. l ++ map f rest) (c.in_ok-push.ensures.items ∙ ap (λ n. c.nodes.names.items ++ n ∷ []) c.in_ok-name.ensures)
          ∙ map_step f c.nodes.names.items c.in-Some.node rest
          ∙ ap (λ l. c.nodes.names.items ++ map f l) (sym c.in-Some.ensures.steps)
          ∙ c.nodes.invariant.so_far;
    }
