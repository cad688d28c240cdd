use Rattle.std.proofs.Common.{ap, sym, ◌∙◌}
use Rattle.std.specs.Option.{option_copied}
use Rattle.use_session.proofs.Framed.{none_bound, top_bound}
use Rattle.use_session.proofs.Unlinked.{if_ok}
use Rattle.use_session.proofs.bindings.bound_values.Goals as goal

pub returns-in-None-clause-values : goal.returns-in-None-clause-values
returns-in-None-clause-values c = λ q. c.new.ensures.items ∙ sym (none_bound c.args.frames.now q (sym c.top.ensures ∙ ap option_copied c.in-None.is))

pub returns-in-Some-clause-values : goal.returns-in-Some-clause-values
returns-in-Some-clause-values c =
    if_ok c.values_of.result (λ vs e q. e ∙ sym (top_bound c.args.frames.now c.in-Some.top.now q (sym c.top.ensures ∙ ap option_copied c.in-Some.is))) c.values_of.ensures
