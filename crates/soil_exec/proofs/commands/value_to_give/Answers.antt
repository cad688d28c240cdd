use Rattle.std.proofs.Common.{ℕ, List, [], sym, subst, ap, ◌∙◌}
use Rattle.std.specs.Option.{option_copied}
use Rattle.ocl_core.specs.declared.program.ProgramParts.{ProgramParts}
use Rattle.object_state.specs.State.{Diagram}
use Rattle.entry_states.specs.declared.frame.Frame.{Frame}
use Rattle.soil_changes.specs.Progress.{diagram_of}
use Rattle.soil_exec.specs.Calls.{giving}
use Rattle.soil_exec.specs.Exec.{Finds}
use Rattle.soil_exec.specs.Kept.{Gives, stand}
use Rattle.soil_exec.specs.Machine.{Machine, begin}
use Rattle.soil_exec.proofs.Finding.{giving_finds}
use Rattle.soil_exec.proofs.commands.value_to_give.Goals as goal

pub returns-clause-finds : goal.returns-clause-finds
returns-clause-finds g c =
    let p = c.args.program.now in
    let at = c.args.place in
    let e = option_copied c.args.e in
    let d = c.args.store.now in
    let before = c.args.steps.now in
    let bound = c.args.bound.items in
    let r = c.giving-given.result in
    let last = c.giving-given.new.self in
    let n = c.giving-given.new.steps in
    let first = (c.begin-machine.ensures.started bound c.in_ok-shell.ensures.env).0 before
    ∙ ap (λ (names : List (List ℕ)). begin d c.new-frames.result names bound before) c.in_ok-shell.ensures.shell
    ∙ ap (λ (fs : List Frame). begin d fs c.args.shell bound before) c.new-frames.ensures in
    let by_setting = subst (λ (q : ProgramParts). Gives (giving q at e (stand c.begin-machine.result before)) r (stand last n))
    c.setting_of-setting.ensures.program c.giving-given.ensures.gives in
    let gives = subst (λ (m : Machine). Gives (giving p at e m) r (stand last n)) first by_setting in
    let left = c.end.ensures.store ∙ ap diagram_of c.into_transaction.ensures in
    subst (λ (x : Diagram). Finds d (giving p at e (begin d [] c.args.shell bound 0)) before r x n) (sym left)
    (giving_finds p at e d c.args.shell bound before r last n gives)

pub giving-given-requires-clause-current : goal.giving-given-requires-clause-current
giving-given-requires-clause-current g c = (c.begin-machine.ensures.started c.args.bound.items c.in_ok-shell.ensures.env).1
