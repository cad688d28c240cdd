use Rattle.std.proofs.Common.{◌++◌, ap, sym, ◌∙◌, string_bytes}
use Rattle.std.specs.List.{flat_map}
use Rattle.use_decls.specs.Names.{text_at}
use Rattle.use_decls.proofs.Stepwise.{flat_map_step}
use Rattle.use_decls.proofs.assocs.add_texts.Goals as goal

pub nodes-preserved : goal.nodes-preserved
nodes-preserved c =
    let f = text_at c.args.lexed.now in
    let rest = c.next.new.self in
    record {
      can = tt;
      ends = tt;
      so_far =
          ap (λ l. l ++ flat_map f rest) (c.in_ok-push_str.ensures.bytes ∙ ap (λ t. string_bytes c.nodes.text ++ t) (c.as_str.ensures ∙ c.in_ok-more.ensures))
          ∙ flat_map_step f (string_bytes c.nodes.text) c.in-Some.node rest
          ∙ ap (λ l. string_bytes c.nodes.text ++ flat_map f l) (sym c.in-Some.ensures.steps)
          ∙ c.nodes.invariant.so_far;
    }
