use Rattle.std.proofs.Common.{◌≡◌, ℕ, ◌+◌, ◌<◌, ◌++◌, List, length, sym, ap, subst, ◌∙◌, arith}
use Rattle.class_model.specs.Parts.{op_result}
use Rattle.class_model.specs.declared.object_model.ObjectModel.{ObjectModel}
use Rattle.ocl_values.specs.declared.value.Value.{Value}
use Rattle.ocl_values.specs.Shape.{IsWellMade}
use Rattle.contract_frames.specs.Judging.{bound_before}
use Rattle.soil_changes.specs.Acts.{then_act}
use Rattle.soil_exec.specs.declared.machine.Machine.{Machine as Kept}
use Rattle.soil_exec.specs.Acted.{HasTop, IsEntered, Returns}
use Rattle.soil_exec.specs.Calls.{result_start, statements, then_posts}
use Rattle.soil_exec.specs.Kept.{Follows, Gives, HasRoom, IsCurrent, IsOfModel, stand}
use Rattle.soil_exec.specs.Parts.{called_in}
use Rattle.soil_exec.proofs.Framed.{call_follows, entered_there, has_top, if_same, on_ok_both, on_ok_then, on_same, with_call, without_call}
use Rattle.soil_exec.proofs.walk.Walk.framed_statements.Goals as goal

pub op_result-result_type-requires : goal.op_result-result_type-requires
op_result-result_type-requires g c = subst (λ (m : ObjectModel). c.args.call.op < length m.ops) (sym c.model.ensures) c.requires.call.known

pub bound_before-requires : goal.bound_before-requires
bound_before-requires g c = c.requires.call.well_made

pub enter-requires : goal.enter-requires
enter-requires g c = omega (arith, c.requires.room)

pub statements-done-requires-clause-of_model : goal.statements-done-requires-clause-of_model
statements-done-requires-clause-of_model g c =
    subst (IsOfModel c.args.self.now.setting.program.now.model) (sym c.in_ok-enter.ensures) c.requires.of_model

pub statements-done-requires-clause-room : goal.statements-done-requires-clause-room
statements-done-requires-clause-room g c =
    subst (HasRoom c.args.self.now.setting.levels) (sym c.in_ok-enter.ensures) (omega (arith, c.requires.room))

pub statements-done-requires-clause-current : goal.statements-done-requires-clause-current
statements-done-requires-clause-current g c = subst IsCurrent (sym c.in_ok-enter.ensures) c.requires.current

pub checked-ended-requires-clause-entered : goal.checked-ended-requires-clause-entered
checked-ended-requires-clause-entered g c =
    let p = c.args.self.now.setting.program.now in
    let k = c.args.call in
    let old = c.args.machine.now in
    let now = c.statements-done.new.machine in
    on_ok_then (Returns c.enter.new.self now) (HasTop p now.transaction.frames) c.statements-done.result
    (λ r. has_top p k _ _ now.transaction.frames c.requires.call (entered_there k old c.enter.new.self now c.in_ok-enter.ensures r)) c.statements-done.ensures.returns

pub returns-clause-gives : goal.returns-clause-gives
returns-clause-gives g c =
    let s = c.args.self.now.setting in
    let p = s.program.now in
    let k = c.args.call in
    let old = c.args.machine.now in
    let now = c.statements-done.new.machine in
    let done = c.statements-done.result in
    let n = g.V.Evaluator.count c.args.steps.now in
    let n' = g.V.Evaluator.count c.statements-done.new.steps in
    let type = c.op_result-result_type.ensures ∙ ap (λ (m : ObjectModel). op_result m k.op) c.model.ensures in
    let bound = c.in_ok-bind_result.ensures ∙ (λ i. c.in_ok-env.ensures i ++ result_start (type i)) in
    let act = λ (z : Kept × ℕ × List Value). statements p (called_in s) c.args.place (z.1 + 1) z.2 c.args.body.now (stand z.0 n) in
    let there : Kept × ℕ × List Value = (with_call k old, length k.args, bound_before k ++ result_start (op_result p.model k.op)) in
    let gives = subst (λ (z : Kept × ℕ × List Value). Gives (act z) done (stand now n')) (λ i. (c.in_ok-enter.ensures i, c.len-result_place.ensures i, bound i)) c.statements-done.ensures.gives in
    let is = on_ok_then (Returns c.enter.new.self now) (IsEntered k old.transaction now.transaction) done (entered_there k old c.enter.new.self now c.in_ok-enter.ensures)
    c.statements-done.ensures.returns in
    c.leave_call.ensures.gives (then_act (act there) (then_posts p c.args.place k (stand old n))) (g.V.Evaluator.count c.checked-ended.new.steps)
    (c.checked-ended.ensures.gives k (stand old n) (act there) is gives)

pub returns-clause-well_made : goal.returns-clause-well_made
returns-clause-well_made g c =
    if_same IsWellMade c.checked-ended.result c.leave_call.result c.leave_call.ensures.given
    (if_same IsWellMade c.statements-done.result c.checked-ended.result c.checked-ended.ensures.given c.statements-done.ensures.well_made)

pub returns-clause-follows : goal.returns-clause-follows
returns-clause-follows g c =
    let old = c.args.machine.now in
    let inner = c.enter.new.self in
    let now = c.statements-done.new.machine in
    let last = c.leave_call.new.self in
    on_ok_both (Returns inner now) (last ≡ without_call now) (Follows old last) c.leave_call.result
    (λ r l. call_follows c.args.call old inner now last c.in_ok-enter.ensures l r)
    (on_same (Returns inner now) c.checked-ended.result c.leave_call.result c.leave_call.ensures.given
    (on_same (Returns inner now) c.statements-done.result c.checked-ended.result c.checked-ended.ensures.given c.statements-done.ensures.returns))
    c.leave_call.ensures.left
