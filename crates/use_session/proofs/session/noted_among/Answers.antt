use Rattle.std.proofs.Common.{subst}
use Rattle.std.specs.Prelude.{IfOk, IfSome, Option}
use Rattle.object_state.specs.State.{State}
use Rattle.soil_check.specs.declared.scope.Bindings.{Bindings}
use Rattle.command_cache.specs.Prepared.{Notes}
use Rattle.use_session.specs.Shell.{known}
use Rattle.use_session.proofs.session.noted_among.Goals as goal

pub returns-clause-noted : goal.returns-clause-noted
returns-clause-noted c =
    let h = c.requires.scope in
    subst (λ (z : State × Option Bindings). IfOk c.note.result (λ n. IfSome n (Notes (known z.0) z.1 c.args.read.now.text c.args.read.now.tokens)))
    (λ i. (h.state i, h.bindings i)) c.note.ensures.noted
