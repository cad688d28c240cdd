use Rattle.std.proofs.Common.{rules, ◌≡◌, Ok, Err, sym, subst}
use Rattle.ocl_core.specs.declared.program.OpBody.{OpBody}
use Rattle.contract_frames.proofs.Sound.{is_sound}
use Rattle.soil_exec.specs.Calls.{body_of, given_by}
use Rattle.soil_exec.specs.Kept.{Gives, stand}
use Rattle.soil_exec.specs.Parts.{called_in}
use Rattle.soil_exec.proofs.Bodied.{bodies_of, body_is, query_is, soil_is}
use Rattle.soil_exec.proofs.Calling.{with_args, with_call, with_holder, with_object, with_pres, with_receiver, with_value}
use Rattle.soil_exec.proofs.Then.{fails_as, goes_on}
use Rattle.soil_exec.proofs.walk.Walk.call.Goals as goal

pub returns-in_err-value-clause-gives : goal.returns-in_err-value-clause-gives
returns-in_err-value-clause-gives g c =
    let s = c.args.self.now.setting in
    let p = s.program.now in
    let at = c.args.place in
    let t = c.args.target.now in
    let es = c.args.args.now in
    let o = c.in_ok-object.object in
    let e = c.in_err-value.field-0.0 in
    let r = c.from_residual-in_err-value.result in
    let is : r ≡ Err e = search rules in
    goes_on _ (with_object p (called_in s) at c.args.receiver.now c.args.op es t) _ _ r _ c.in_ok-object.ensures.gives
    (fails_as _ (with_receiver p (called_in s) at c.args.receiver.now c.args.op es t o) e _ r is c.in_err-value.ensures.gives)

pub returns-in_err-values-clause-gives : goal.returns-in_err-values-clause-gives
returns-in_err-values-clause-gives g c =
    let s = c.args.self.now.setting in
    let p = s.program.now in
    let at = c.args.place in
    let t = c.args.target.now in
    let es = c.args.args.now in
    let o = c.in_ok-object.object in
    let e = c.in_err-values.field-0.0 in
    let r = c.from_residual-in_err-values.result in
    let is : r ≡ Err e = search rules in
    goes_on _ (with_object p (called_in s) at c.args.receiver.now c.args.op es t) _ _ r _ c.in_ok-object.ensures.gives
    (goes_on _ (with_receiver p (called_in s) at c.args.receiver.now c.args.op es t o) _ _ r _ c.in_ok-value.ensures.gives
    (fails_as _ (with_args p (called_in s) at c.args.receiver.now c.args.op es t o c.in_ok-value.value) e _ r is c.in_err-values.ensures.gives))

pub returns-in_err-check_holder_if-clause-gives : goal.returns-in_err-check_holder_if-clause-gives
returns-in_err-check_holder_if-clause-gives g c =
    let s = c.args.self.now.setting in
    let p = s.program.now in
    let at = c.args.place in
    let t = c.args.target.now in
    let es = c.args.args.now in
    let o = c.in_ok-object.object in
    let e = c.in_err-check_holder_if.field-0.0 in
    let r = c.from_residual-in_err-check_holder_if.result in
    let is : r ≡ Err e = search rules in
    let n = g.V.Evaluator.count c.values.new.steps in
    goes_on _ (with_object p (called_in s) at c.args.receiver.now c.args.op es t) _ _ r _ c.in_ok-object.ensures.gives
    (goes_on _ (with_receiver p (called_in s) at c.args.receiver.now c.args.op es t o) _ _ r _ c.in_ok-value.ensures.gives
    (goes_on _ (with_args p (called_in s) at c.args.receiver.now c.args.op es t o c.in_ok-value.value) _ _ r _ c.in_ok-values.ensures.gives
    (fails_as _ (λ u. with_holder p (called_in s) at c.args.receiver.now c.args.op es t o c.in_ok-value.value c.in_ok-values.values) e _ r is (c.in_err-check_holder_if.ensures n))))

pub returns-in_err-call-clause-gives : goal.returns-in_err-call-clause-gives
returns-in_err-call-clause-gives g c =
    let s = c.args.self.now.setting in
    let p = s.program.now in
    let at = c.args.place in
    let t = c.args.target.now in
    let es = c.args.args.now in
    let o = c.in_ok-object.object in
    let e = c.in_err-call.field-0.0 in
    let r = c.from_residual-in_err-call.result in
    let is : r ≡ Err e = search rules in
    let n = g.V.Evaluator.count c.values.new.steps in
    goes_on _ (with_object p (called_in s) at c.args.receiver.now c.args.op es t) _ _ r _ c.in_ok-object.ensures.gives
    (goes_on _ (with_receiver p (called_in s) at c.args.receiver.now c.args.op es t o) _ _ r _ c.in_ok-value.ensures.gives
    (goes_on _ (with_args p (called_in s) at c.args.receiver.now c.args.op es t o c.in_ok-value.value) _ _ r _ c.in_ok-values.ensures.gives
    (goes_on _ (λ u. with_holder p (called_in s) at c.args.receiver.now c.args.op es t o c.in_ok-value.value c.in_ok-values.values) _ _ r _ (c.in_ok-check_holder_if.ensures n)
    (fails_as _ (with_call p (called_in s) at c.args.receiver.now c.args.op es t o) e _ r is (c.in_err-call.ensures.gives n)))))

pub returns-in_err-pres_hold-clause-gives : goal.returns-in_err-pres_hold-clause-gives
returns-in_err-pres_hold-clause-gives g c =
    let s = c.args.self.now.setting in
    let p = s.program.now in
    let at = c.args.place in
    let t = c.args.target.now in
    let es = c.args.args.now in
    let o = c.in_ok-object.object in
    let e = c.in_err-pres_hold.field-0.0 in
    let r = c.from_residual-in_err-pres_hold.result in
    let is : r ≡ Err e = search rules in
    let n = g.V.Evaluator.count c.values.new.steps in
    goes_on _ (with_object p (called_in s) at c.args.receiver.now c.args.op es t) _ _ r _ c.in_ok-object.ensures.gives
    (goes_on _ (with_receiver p (called_in s) at c.args.receiver.now c.args.op es t o) _ _ r _ c.in_ok-value.ensures.gives
    (goes_on _ (with_args p (called_in s) at c.args.receiver.now c.args.op es t o c.in_ok-value.value) _ _ r _ c.in_ok-values.ensures.gives
    (goes_on _ (λ u. with_holder p (called_in s) at c.args.receiver.now c.args.op es t o c.in_ok-value.value c.in_ok-values.values) _ _ r _ (c.in_ok-check_holder_if.ensures n)
    (goes_on _ (with_call p (called_in s) at c.args.receiver.now c.args.op es t o) _ _ r _ (c.in_ok-call.ensures.gives n)
    (fails_as _ (λ u. with_pres p (called_in s) at c.args.receiver.now c.args.op es t o c.in_ok-call.call) e _ r is c.in_err-pres_hold.ensures)))))

pub returns-in_err-given-clause-gives : goal.returns-in_err-given-clause-gives
returns-in_err-given-clause-gives g c =
    let s = c.args.self.now.setting in
    let p = s.program.now in
    let at = c.args.place in
    let t = c.args.target.now in
    let es = c.args.args.now in
    let o = c.in_ok-object.object in
    let e = c.in_err-given.field-0.0 in
    let r = c.from_residual-in_err-given.result in
    let is : r ≡ Err e = search rules in
    let n = g.V.Evaluator.count c.values.new.steps in
    let k = c.in_ok-call.call in
    let m = stand c.values.new.self (g.V.Evaluator.count c.pres_hold.new.steps) in
    let m' = stand c.given_by.new.machine (g.V.Evaluator.count c.given_by.new.steps) in
    let fails : Gives (given_by p (called_in s) at k (body_of p k) m) (Err e) m' = subst (λ (b : OpBody). Gives (given_by p (called_in s) at k b m) (Err e) m')
    (sym (body_is p k c.op_body-body.result.now c.op_body-body.ensures)) c.in_err-given.ensures.gives in
    goes_on _ (with_object p (called_in s) at c.args.receiver.now c.args.op es t) _ _ r _ c.in_ok-object.ensures.gives
    (goes_on _ (with_receiver p (called_in s) at c.args.receiver.now c.args.op es t o) _ _ r _ c.in_ok-value.ensures.gives
    (goes_on _ (with_args p (called_in s) at c.args.receiver.now c.args.op es t o c.in_ok-value.value) _ _ r _ c.in_ok-values.ensures.gives
    (goes_on _ (λ u. with_holder p (called_in s) at c.args.receiver.now c.args.op es t o c.in_ok-value.value c.in_ok-values.values) _ _ r _ (c.in_ok-check_holder_if.ensures n)
    (goes_on _ (with_call p (called_in s) at c.args.receiver.now c.args.op es t o) _ _ r _ (c.in_ok-call.ensures.gives n)
    (goes_on _ (λ u. with_pres p (called_in s) at c.args.receiver.now c.args.op es t o c.in_ok-call.call) _ _ r _ c.in_ok-pres_hold.ensures
    (fails_as _ (with_value p (called_in s) at c.args.receiver.now c.args.op es t o) e _ r is fails))))))

pub returns-clause-gives : goal.returns-clause-gives
returns-clause-gives g c =
    let s = c.args.self.now.setting in
    let p = s.program.now in
    let at = c.args.place in
    let t = c.args.target.now in
    let es = c.args.args.now in
    let o = c.in_ok-object.object in
    let n = g.V.Evaluator.count c.values.new.steps in
    let k = c.in_ok-call.call in
    let m = stand c.values.new.self (g.V.Evaluator.count c.pres_hold.new.steps) in
    let m' = stand c.given_by.new.machine (g.V.Evaluator.count c.given_by.new.steps) in
    let gives : given_by p (called_in s) at k (body_of p k) m ≡ (Ok c.in_ok-given.given, m') = subst (λ (b : OpBody). Gives (given_by p (called_in s) at k b m) (Ok c.in_ok-given.given) m')
    (sym (body_is p k c.op_body-body.result.now c.op_body-body.ensures)) c.in_ok-given.ensures.gives in
    goes_on _ (with_object p (called_in s) at c.args.receiver.now c.args.op es t) _ _ _ _ c.in_ok-object.ensures.gives
    (goes_on _ (with_receiver p (called_in s) at c.args.receiver.now c.args.op es t o) _ _ _ _ c.in_ok-value.ensures.gives
    (goes_on _ (with_args p (called_in s) at c.args.receiver.now c.args.op es t o c.in_ok-value.value) _ _ _ _ c.in_ok-values.ensures.gives
    (goes_on _ (λ u. with_holder p (called_in s) at c.args.receiver.now c.args.op es t o c.in_ok-value.value c.in_ok-values.values) _ _ _ _ (c.in_ok-check_holder_if.ensures n)
    (goes_on _ (with_call p (called_in s) at c.args.receiver.now c.args.op es t o) _ _ _ _ (c.in_ok-call.ensures.gives n)
    (goes_on _ (λ u. with_pres p (called_in s) at c.args.receiver.now c.args.op es t o c.in_ok-call.call) _ _ _ _ c.in_ok-pres_hold.ensures
    (goes_on _ (with_value p (called_in s) at c.args.receiver.now c.args.op es t o) _ _ _ _ gives
    (c.put_if.ensures.gives (g.V.Evaluator.count c.given_by.new.steps))))))))

pub given_by-requires-clause-query : goal.given_by-requires-clause-query
given_by-requires-clause-query g c =
    let p = c.args.self.now.setting.program.now in
    query_is p c.in_ok-call.call c.op_body-body.result.now c.op_body-body.ensures (is_sound p c.is_checked.ensures)

pub given_by-requires-clause-soil : goal.given_by-requires-clause-soil
given_by-requires-clause-soil g c =
    let p = c.args.self.now.setting.program.now in
    soil_is p c.in_ok-call.call c.op_body-body.result.now c.op_body-body.ensures (bodies_of p c.is_checked.ensures)
