use Rattle.std.proofs.Common.{◌++◌, ◌∷◌, [], ap, sym, append_assoc, ◌∙◌}
use Rattle.ocl_syntax.proofs.collected.collected.Goals as goal

pub nodes-preserved : goal.nodes-preserved
nodes-preserved c =
    let rest = c.next.new.self in
    record {
      can = tt;
      ends = tt;
      so_far =
          ap (λ l. l ++ rest) c.in_ok-push.ensures.items
          ∙ append_assoc c.nodes.found.items (c.in-Some.node ∷ []) rest
          ∙ ap (λ l. c.nodes.found.items ++ l) (sym c.in-Some.ensures.steps)
          ∙ c.nodes.invariant.so_far;
    }
