use Rattle.std.proofs.Common.{Option, IfSome, refl, sym, subst}
use Rattle.class_model.specs.InRange.{IsInRange}
use Rattle.entry_states.specs.Frames.{entered}
use Rattle.soil_check.specs.declared.scope.Bindings.{Bindings}
use Rattle.soil_check.specs.Checks.{AreBindingsOf}
use Rattle.object_state.specs.Looks.{look}
use Rattle.use_session.proofs.Framed.{top_is_call}
use Rattle.use_session.proofs.Keeping.{present_proper}
use Rattle.use_session.proofs.Scoping.{frame_of, scope_of}
use Rattle.use_session.proofs.machine.Machine.check.Goals as goal

pub top_bindings-requires : goal.top_bindings-requires
top_bindings-requires c =
    let k = c.args.self.now in
    top_is_call k.program k.frames (look k.store.layout k.store.state) (present_proper k c.requires.kept).calls

pub returns-clause-of_model : goal.returns-clause-of_model
returns-clause-of_model c =
    let k = c.args.self.now in
    let q = look k.store.layout k.store.state in
    let before = present_proper k c.requires.kept in
    let ranges = subst IsInRange c.model.ensures c.has_numbers_in_range.ensures in
    let bindings = subst (λ (b : Option Bindings). IfSome b (AreBindingsOf k.program.model)) (sym (c.in_ok-bindings.ensures q))
    (frame_of k.program.model ranges k.program refl (entered k.frames q) before.calls) in
    c.check_command.ensures.in_range
    (scope_of k.program.model k.store.layout k.store.state c.requires.kept.layout c.state_is_valid.ensures before.types c.in_ok-bindings.bindings bindings)
