use Rattle.std.proofs.Common.{ap, arith, drop, sym, ◌∙◌}
use Rattle.std.proofs.lemmas.List.{drop_all}
use Rattle.model_check.specs.Seen.{with_params}
use Rattle.model_check.proofs.Sizes.{no_more_params}
use Rattle.model_check.proofs.seen.push_params.Goals as goal

pub returns : goal.returns
returns c =
    sym
    (ap (λ ps. with_params c.params.seen c.params.names.now ps) (drop_all c.params.param-index c.args.params.now (omega arith))
    ∙ no_more_params c.params.seen c.params.names.now)
    ∙ c.params.invariant.same
