use Rattle.std.proofs.Common.{ap, sym, ◌∙◌}
use Rattle.object_state.specs.declared.change.Change.{Change}
use Rattle.object_state.specs.Changes.{apply, inverse}
use Rattle.object_state.specs.Looks.{look}
use Rattle.entry_states.specs.Frames.{entered}
use Rattle.entry_states.proofs.Led.{inverse_twice}
use Rattle.use_session.proofs.Unlinked.{if_ok, on_ok}
use Rattle.use_session.proofs.moments.take_one_back.Goals as goal

pub returns-clause-same : goal.returns-clause-same
returns-clause-same c = if_ok c.apply.result (λ x e. e ∙ ap inverse c.inverse-back.ensures ∙ inverse_twice c.args.change) c.apply.ensures.back

pub returns-clause-noted : goal.returns-clause-noted
returns-clause-noted c =
    let d = c.args.store.now in
    on_ok c.apply.result (λ e. record {
      same = ap (λ (x : Change). entered c.note.new.self (look d.layout (apply d.layout d.state x))) (sym c.inverse-back.ensures) ∙ c.in_ok-note.ensures.keeps;
      grown = c.in_ok-note.ensures.grown;
    }) c.apply.ensures.applied
