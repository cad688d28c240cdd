use Rattle.std.proofs.Common.{rules, ◌≡◌, Option, Some, Err, sym, ap, subst}
use Rattle.std.specs.Option.{option_copied}
use Rattle.ocl_core.specs.declared.expression.Expr.{Expr}
use Rattle.soil_changes.specs.Acts.{◌>>◌, pure}
use Rattle.soil_exec.specs.Calls.{check_stored, giving}
use Rattle.soil_exec.specs.Kept.{Gives, stand}
use Rattle.soil_exec.proofs.Then.{fails_as, goes_on}
use Rattle.soil_exec.proofs.machine.Machine.giving.Goals as goal

pub returns-in_err-check_stored-in-Some-clause-gives : goal.returns-in_err-check_stored-in-Some-clause-gives
returns-in_err-check_stored-in-Some-clause-gives g c =
    let p = c.args.setting.now.program.now in
    let at = c.args.place in
    let n' = g.V.Evaluator.count c.value.new.steps in
    let v = c.in_ok-value-in-Some.value in
    let e = c.in_err-check_stored-in-Some.field-0.0 in
    let r = c.from_residual-in_err-check_stored-in-Some.result in
    let is : r ≡ Err e = search rules in
    let same : option_copied c.args.e ≡ Some c.in-Some.e.now = ap option_copied c.in-Some.is in
    subst (λ (u : Option Expr). Gives (giving p at u (stand c.args.self.now (g.V.Evaluator.count c.args.steps.now))) r (stand c.value.new.self n')) (sym same)
    (goes_on _ (λ w. check_stored at w >> pure w) v _ r _ c.in_ok-value-in-Some.ensures.gives
    (fails_as _ (λ u. pure v) e _ r is (c.in_err-check_stored-in-Some.ensures n')))
