use Rattle.std.proofs.Common.{◌++◌, ap, sym, ◌∙◌, refl}
use Rattle.use_info.proofs.Pieces.{parameters-next, two-more}
use Rattle.use_info.proofs.class_info.append_parameters.Goals as goal

pub parameters-preserved : goal.parameters-preserved
parameters-preserved c =
    two-more _ _ _ _ _ _ _ c.parameters.invariant refl c.in_ok-append_parameter.ensures
    ∙ ap (λ t. c.args.out.now.items ++ t)
    (sym (parameters-next c.args.model.now c.args.parameters.now c.parameters.at c.index-parameters-at.result c.parameters-test.true c.index-parameters-at.is))
