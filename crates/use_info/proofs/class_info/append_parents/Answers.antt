use Rattle.std.proofs.Common.{◌++◌, ap, sym, ◌∙◌}
use Rattle.use_info.proofs.Pieces.{parents-next, two-more}
use Rattle.use_info.proofs.class_info.append_parents.Goals as goal

pub parents-preserved : goal.parents-preserved
parents-preserved c =
    two-more _ _ _ _ _ _ _ c.parents.invariant (c.in_ok-append.ensures ∙ ap (λ t. c.parents.out.items ++ t) c.before_parent.ensures)
    (c.in_ok-append-2.ensures ∙ ap (λ t. c.append.new.out.items ++ t) c.class_text.ensures)
    ∙ ap (λ t. c.args.out.now.items ++ t) (sym (parents-next c.args.model.now c.args.parents.now c.parents.at _ c.parents-test.true))
