use Rattle.std.proofs.Common.{ℕ, List, subst}
use Rattle.std.specs.Prelude.{IfSome, Option}
use Rattle.std.specs.Option.{option_copied}
use Rattle.object_state.specs.State.{State}
use Rattle.soil_check.specs.declared.scope.Bindings.{Bindings}
use Rattle.command_cache.specs.Prepared.{Is}
use Rattle.use_session.specs.Kept.{machine_of}
use Rattle.use_session.specs.Shell.{known}
use Rattle.use_session.proofs.Found.{some_found}
use Rattle.use_session.proofs.session.found_among.Goals as goal

pub returns : goal.returns
returns c =
    let k = c.args.machine.now in
    let h = c.requires.scope in
    some_found (machine_of k) c.args.cut.now c.requires.whole (option_copied c.find.result)
    (subst (λ (z : (State × Option Bindings) × List ℕ). IfSome (option_copied c.find.result) (Is k.program (known z.0.0) z.0.1 z.1))
    (λ i. ((h.state i, h.bindings i), c.as_slice.ensures i)) (c.find.ensures k.program c.requires.commands))
