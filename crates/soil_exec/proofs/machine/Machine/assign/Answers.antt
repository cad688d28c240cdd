use Rattle.std.proofs.Common.{rules, ◌≡◌, Err}
use Rattle.ocl_values.specs.declared.value.Value.{Value}
use Rattle.soil_changes.specs.Acts.{◌>>=◌}
use Rattle.soil_exec.specs.Targets.{put}
use Rattle.soil_exec.specs.Values.{value}
use Rattle.soil_exec.proofs.Then.{fails_as, goes_on}
use Rattle.soil_exec.proofs.machine.Machine.assign.Goals as goal

pub returns-in_err-value-clause-gives : goal.returns-in_err-value-clause-gives
returns-in_err-value-clause-gives g c =
    let p = c.args.setting.now.program.now in
    let e = c.in_err-value.field-0.0 in
    let r = c.from_residual-in_err-value.result in
    let is : r ≡ Err e = search rules in
    let last = λ (object v : Value). put c.args.place c.args.target.now object v in
    goes_on _ (λ object. value p c.args.place c.args.e.now >>= last object) _ _ r _ c.in_ok-holder.ensures.gives
    (fails_as _ (last c.in_ok-holder.holder) e _ r is c.in_err-value.ensures.gives)

pub returns-clause-gives : goal.returns-clause-gives
returns-clause-gives g c =
    let p = c.args.setting.now.program.now in
    let last = λ (object v : Value). put c.args.place c.args.target.now object v in
    goes_on _ (λ object. value p c.args.place c.args.e.now >>= last object) _ _ _ _ c.in_ok-holder.ensures.gives
    (goes_on _ (last c.in_ok-holder.holder) _ _ _ _ c.in_ok-value.ensures.gives (c.put.ensures.gives _))
