use Rattle.std.proofs.Common.{ℕ, ◌≤◌, List, subst}
use Rattle.object_state.specs.declared.change.Change.{Change}
use Rattle.object_state.specs.Looks.{look}
use Rattle.soil_exec.specs.declared.fault.ExecFault.{ExecFault}
use Rattle.use_session.specs.Answering.{TellsFault}
use Rattle.use_session.proofs.Executed.{executed_answers, fault_answers}
use Rattle.use_session.proofs.Framed.{as_many, top_is_call}
use Rattle.use_session.proofs.Keeping.{present_proper}
use Rattle.use_session.proofs.Noted.{ToldOn, noted}
use Rattle.use_session.proofs.machine.Machine.carry_out.Goals as goal

pub execute-done-requires-clause-bound : goal.execute-done-requires-clause-bound
execute-done-requires-clause-bound g c =
    let k = c.args.self.now in
    c.in_ok-bound.ensures.well_made k.program (top_is_call k.program k.frames (look k.store.layout k.store.state) (present_proper k c.requires.kept).calls)

pub execute-done-requires-clause-open : goal.execute-done-requires-clause-open
execute-done-requires-clause-open g c =
    let k = c.args.self.now in
    subst (λ (n : ℕ). n ≤ 64) (as_many k.frames (look k.store.layout k.store.state)) (present_proper k c.requires.kept).few

pub returns-in_ok-note_all-in-Ok : goal.returns-in_ok-note_all-in-Ok
returns-in_ok-note_all-in-Ok g c =
    let k = c.args.self.now in
    let told = subst (λ (cs : List Change). ToldOn c.model-model.result.now k.structure cs c.note_all.new.structure) c.as_slice.ensures
    c.in_ok-note_all-in-Ok.ensures in
    let stands = noted k c.requires.kept c.in-Ok.changes c.model-model.result.now c.note_all.new.structure c.execute-done.new.store.state
    c.model-model.ensures c.in-Ok.ensures.lead told in
    executed_answers k c.requires.kept c.state_is_valid.ensures c.args.line c.args.body.now c.args.shell c.in_ok-bound.bound.items
    (c.in_ok-bound.ensures.values (look k.store.layout k.store.state)) c.args.out.now.items c.args.steps.now c.in-Ok.changes c.execute-done.new.store
    c.execute-done.new.frames c.execute-done.new.steps c.in-Ok.ensures.told c.in-Ok.ensures.layout c.in-Ok.ensures.lead c.in-Ok.ensures.typed
    c.note_all.new.structure stands c.keep.new.history c.keep.ensures

pub returns-in-Err : goal.returns-in-Err
returns-in-Err g c =
    let k = c.args.self.now in
    fault_answers k c.requires.kept c.state_is_valid.ensures c.args.line c.args.body.now c.args.shell c.in_ok-bound.bound.items
    (c.in_ok-bound.ensures.values (look k.store.layout k.store.state)) c.args.out.now.items c.args.steps.now c.in-Err.fault c.execute-done.new.store
    c.execute-done.new.frames c.execute-done.new.steps c.in-Err.ensures.told c.tell.result c.tell.new.out.items
    (subst (λ (f : ExecFault). TellsFault k.program f c.args.out.now.items c.tell.result c.tell.new.out.items) c.fault_in.ensures c.tell.ensures)
