use Rattle.std.proofs.Common.{rules, ◌≡◌, Err}
use Rattle.ocl_values.specs.declared.value.Value.{Value}
use Rattle.soil_changes.specs.Acts.{◌>>=◌}
use Rattle.soil_changes.specs.Joining.{delete}
use Rattle.soil_exec.specs.Machine.{changing}
use Rattle.soil_exec.specs.Values.{value}
use Rattle.soil_exec.proofs.Then.{fails_as, goes_on}
use Rattle.soil_exec.proofs.machine.Machine.delete.Goals as goal

pub returns-in_err-other-clause-gives : goal.returns-in_err-other-clause-gives
returns-in_err-other-clause-gives g c =
    let p = c.args.setting.now.program.now in
    let e = c.in_err-other.field-0.0 in
    let r = c.from_residual-in_err-other.result in
    let is : r ≡ Err e = search rules in
    let last = λ (v w : Value). changing c.args.place (delete c.args.assoc v w) in
    goes_on _ (λ v. value p c.args.place c.args.second.now >>= last v) _ _ r _ c.in_ok-one.ensures.gives
    (fails_as _ (last c.in_ok-one.one) e _ r is c.in_err-other.ensures.gives)

pub returns-clause-gives : goal.returns-clause-gives
returns-clause-gives g c =
    let p = c.args.setting.now.program.now in
    let last = λ (v w : Value). changing c.args.place (delete c.args.assoc v w) in
    goes_on _ (λ v. value p c.args.place c.args.second.now >>= last v) _ _ _ _ c.in_ok-one.ensures.gives
    (goes_on _ (last c.in_ok-one.one) _ _ _ _ c.in_ok-other.ensures.gives (c.unlink.ensures.gives _))
