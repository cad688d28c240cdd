use Rattle.std.proofs.Common.{◌++◌, ◌∷◌, [], map, ap, sym, ◌∙◌}
use Rattle.use_decls.specs.Names.{text_at}
use Rattle.soil_types.proofs.Steps.{map_step}
use Rattle.soil_types.proofs.objects.texts.Goals as goal

pub names-preserved : goal.names-preserved
names-preserved c =
    let f = text_at c.args.lexed.now in
    let rest = c.next.new.self in
    record {
      can = tt;
      ends = tt;
      so_far =
          ap (λ l. l ++ map f rest) (c.in_ok-push.ensures.ok ∙ ap (λ n. c.names.names ++ n ∷ []) c.in_ok-name.ensures)
          ∙ map_step f c.names.names c.in-Some.node rest
          ∙ ap (λ l. c.names.names ++ map f l) (sym c.in-Some.ensures.steps)
          ∙ c.names.invariant.so_far;
    }
