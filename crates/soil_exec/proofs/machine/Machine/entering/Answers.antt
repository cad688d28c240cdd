use Rattle.std.proofs.Common.{rules, ◌≡◌, List, Err}
use Rattle.ocl_values.specs.declared.value.Value.{Value}
use Rattle.soil_changes.specs.Acts.{◌>>=◌}
use Rattle.soil_exec.specs.Calls.{call_of}
use Rattle.soil_exec.specs.Values.{values}
use Rattle.soil_exec.proofs.Then.{fails_as, goes_on}
use Rattle.soil_exec.proofs.machine.Machine.entering.Goals as goal

pub returns-in_err-values-clause-gives : goal.returns-in_err-values-clause-gives
returns-in_err-values-clause-gives g c =
    let p = c.args.setting.now.program.now in
    let e = c.in_err-values.field-0.0 in
    let r = c.from_residual-in_err-values.result in
    let is : r ≡ Err e = search rules in
    let last = λ (v : Value) (vs : List Value). call_of p c.args.place c.args.op v vs in
    goes_on _ (λ v. values p c.args.place c.args.args.now >>= last v) _ _ r _ c.in_ok-value.ensures.gives
    (fails_as _ (last c.in_ok-value.value) e _ r is c.in_err-values.ensures.gives)

pub returns-clause-gives : goal.returns-clause-gives
returns-clause-gives g c =
    let p = c.args.setting.now.program.now in
    let last = λ (v : Value) (vs : List Value). call_of p c.args.place c.args.op v vs in
    goes_on _ (λ v. values p c.args.place c.args.args.now >>= last v) _ _ _ _ c.in_ok-value.ensures.gives
    (goes_on _ (last c.in_ok-value.value) _ _ _ _ c.in_ok-values.ensures.gives (c.call_of.ensures.gives (g.V.Evaluator.count c.values.new.steps)))
