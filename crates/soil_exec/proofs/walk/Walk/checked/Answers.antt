use Rattle.std.proofs.Common.{rules, ◌≡◌, Result, Ok, Err, refl, subst}
use Rattle.std.specs.Prelude.{OnOk}
use Rattle.ocl_values.specs.declared.value.Value.{Value}
use Rattle.soil_changes.specs.Acts.{pure}
use Rattle.soil_exec.specs.declared.fault.ExecFault.{ExecFault}
use Rattle.soil_exec.specs.Acted.{IsEntered}
use Rattle.soil_exec.specs.Calls.{then_posts}
use Rattle.soil_exec.specs.Kept.{Gives, stand}
use Rattle.soil_exec.proofs.Then.{fails_as, goes_on}
use Rattle.soil_exec.proofs.walk.Walk.checked.Goals as goal

pub returns-in_err-posts_hold-clause-gives : goal.returns-in_err-posts_hold-clause-gives
returns-in_err-posts_hold-clause-gives g c = λ k entry o is h.
    let p = c.args.self.now.setting.program.now in
    let m = c.args.machine.now in
    let e = c.in_err-posts_hold.field-0.0 in
    let r = c.from_residual-in_err-posts_hold.result in
    let fails : r ≡ Err e = search rules in
    let there = subst (λ (x : Result Value ExecFault). OnOk x (IsEntered k entry.progress m.transaction)) c.in_ok-given.was is in
    let done = subst (λ (x : Result Value ExecFault). Gives o x (stand m (g.V.Evaluator.count c.args.steps.now))) c.in_ok-given.was h in
    goes_on o (then_posts p c.args.place k entry) c.in_ok-given.given _ r _ done
    (fails_as _ (λ u. pure c.in_ok-given.given) e _ r fails (c.in_err-posts_hold.ensures k entry there))

pub returns-clause-gives : goal.returns-clause-gives
returns-clause-gives g c = λ k entry o is h.
    let p = c.args.self.now.setting.program.now in
    let m = c.args.machine.now in
    let there = subst (λ (x : Result Value ExecFault). OnOk x (IsEntered k entry.progress m.transaction)) c.in_ok-given.was is in
    let done = subst (λ (x : Result Value ExecFault). Gives o x (stand m (g.V.Evaluator.count c.args.steps.now))) c.in_ok-given.was h in
    goes_on o (then_posts p c.args.place k entry) c.in_ok-given.given _ (Ok c.in_ok-given.given) _ done
    (goes_on _ (λ u. pure c.in_ok-given.given) _ _ (Ok c.in_ok-given.given) _ (c.in_ok-posts_hold.ensures k entry there) refl)
