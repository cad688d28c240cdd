use Rattle.std.proofs.Common.{◌<◌, ℕ, List, [], length, sym, subst, ap, ◌∙◌}
use Rattle.std.specs.Prelude.{IfOk}
use Rattle.ocl_core.specs.declared.program.ProgramParts.{ProgramParts}
use Rattle.object_state.specs.State.{Diagram}
use Rattle.entry_states.specs.declared.frame.Frame.{Frame}
use Rattle.contract_frames.specs.Entering.{IsCall}
use Rattle.soil_changes.specs.Progress.{diagram_of}
use Rattle.soil_exec.specs.Calls.{entering}
use Rattle.soil_exec.specs.Exec.{Finds}
use Rattle.soil_exec.specs.Kept.{Gives, IsOfModel, stand}
use Rattle.soil_exec.specs.Machine.{Machine, begin}
use Rattle.soil_exec.proofs.Finding.{entering_finds}
use Rattle.soil_exec.proofs.commands.call_to_enter.Goals as goal

pub entering-found-requires-clause-op : goal.entering-found-requires-clause-op
entering-found-requires-clause-op g c =
    subst (λ (q : ProgramParts). c.args.op < length q.model.ops) (sym c.setting_of-setting.ensures.program) c.requires.op

pub entering-found-requires-clause-of_model : goal.entering-found-requires-clause-of_model
entering-found-requires-clause-of_model g c =
    subst (λ (q : ProgramParts). IsOfModel q.model c.begin-machine.result) (sym c.setting_of-setting.ensures.program) c.begin-machine.ensures.of_model

pub returns-clause-is_call : goal.returns-clause-is_call
returns-clause-is_call g c =
    subst (λ (q : ProgramParts). IfOk c.entering-found.result (IsCall q)) c.setting_of-setting.ensures.program c.entering-found.ensures.is_call

pub returns-clause-finds : goal.returns-clause-finds
returns-clause-finds g c =
    let p = c.args.program.now in
    let at = c.args.place in
    let e = c.args.receiver.now in
    let op = c.args.op in
    let es = c.args.args.now in
    let d = c.args.store.now in
    let before = c.args.steps.now in
    let bound = c.args.bound.items in
    let r = c.entering-found.result in
    let last = c.entering-found.new.self in
    let n = c.entering-found.new.steps in
    let first = (c.begin-machine.ensures.started bound c.in_ok-shell.ensures.env).0 before
    ∙ ap (λ (names : List (List ℕ)). begin d c.new-frames.result names bound before) c.in_ok-shell.ensures.shell
    ∙ ap (λ (fs : List Frame). begin d fs c.args.shell bound before) c.new-frames.ensures in
    let by_setting = subst (λ (q : ProgramParts). Gives (entering q at e op es (stand c.begin-machine.result before)) r (stand last n))
    c.setting_of-setting.ensures.program c.entering-found.ensures.gives in
    let gives = subst (λ (m : Machine). Gives (entering p at e op es m) r (stand last n)) first by_setting in
    let left = c.end.ensures.store ∙ ap diagram_of c.into_transaction.ensures in
    subst (λ (x : Diagram). Finds d (entering p at e op es (begin d [] c.args.shell bound 0)) before r x n) (sym left)
    (entering_finds p at e op es d c.args.shell bound before r last n gives)

pub entering-found-requires-clause-current : goal.entering-found-requires-clause-current
entering-found-requires-clause-current g c = (c.begin-machine.ensures.started c.args.bound.items c.in_ok-shell.ensures.env).1
