use Rattle.std.proofs.Common.{rules, ◌≡◌, ◌+◌, Err, drop, sym, subst, ◌∙◌}
use Rattle.soil_changes.specs.Acts.{Outcome, each}
use Rattle.soil_exec.specs.declared.fault.ExecFault.{ExecFault}
use Rattle.soil_exec.specs.Calls.{check_stored}
use Rattle.soil_exec.specs.Kept.{Gives, stand}
use Rattle.soil_exec.specs.Machine as machines
use Rattle.soil_exec.proofs.Each.{each_next, each_step}
use Rattle.soil_exec.proofs.Then.{fails_as}
use Rattle.soil_exec.proofs.machine.Machine.check_all_stored.Goals as goal

pub values-preserved : goal.values-preserved
values-preserved c = λ steps.
    let m = stand c.args.self.now steps in
    each_next (check_stored c.args.place) c.args.values.now c.values.value-index c.value-item.result m m c.values-test.true c.value-item.is
    (c.in_ok-check_stored.ensures steps)
    ∙ c.values.invariant steps

pub returns-in_err-check_stored : goal.returns-in_err-check_stored
returns-in_err-check_stored c = λ steps.
    let m = stand c.args.self.now steps in
    let f = check_stored c.args.place in
    let n = c.values.value-index in
    let vs = c.args.values.now in
    let e = c.in_err-check_stored.field-0.0 in
    let r = c.from_residual.result in
    let is : r ≡ Err e = search rules in
    subst (λ (o : Outcome machines.Machine ExecFault (Unit {0})). Gives o r m) (c.values.invariant steps)
    (subst (λ (o : Outcome machines.Machine ExecFault (Unit {0})). Gives o r m) (sym (each_step f vs n c.value-item.result m c.values-test.true c.value-item.is))
    (fails_as (f c.value-item.result m) (λ u. each f (drop (n + 1) vs)) e m r is (c.in_err-check_stored.ensures steps)))
