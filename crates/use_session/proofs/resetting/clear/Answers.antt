use Rattle.std.proofs.Common.{List, ap, sym, subst, ◌∙◌}
use Rattle.object_state.specs.declared.change.Change.{Change}
use Rattle.entry_states.specs.Leading.{CanBeCarriedOut, led_on}
use Rattle.use_session.proofs.Emptied.{all_go}
use Rattle.use_session.proofs.Unlinked.{on_ok}
use Rattle.use_session.proofs.resetting.clear.Goals as goal

pub carry_out_again-requires-clause-on : goal.carry_out_again-requires-clause-on
carry_out_again-requires-clause-on c =
    let store = c.args.store.now in
    subst (λ (cs : List Change). CanBeCarriedOut store.layout store.state cs) (sym c.in_ok-changes.ensures) (all_go store.layout store.state c.state_is_valid.ensures).0

pub returns-clause-state : goal.returns-clause-state
returns-clause-state c =
    let store = c.args.store.now in
    let led = ap (led_on store.layout store.state) c.in_ok-changes.ensures ∙ (all_go store.layout store.state c.state_is_valid.ensures).1 in
    on_ok c.carry_out_again.result (λ e. e ∙ (λ i. record store { state = led i })) c.carry_out_again.ensures.state
