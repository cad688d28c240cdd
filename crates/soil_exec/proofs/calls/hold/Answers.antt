use Rattle.std.proofs.Common.{rules, ◌≡◌, ◌+◌, Err, drop, sym, subst, ◌∙◌}
use Rattle.soil_changes.specs.Acts.{Outcome, each}
use Rattle.soil_exec.specs.declared.fault.ExecFault.{ExecFault}
use Rattle.soil_exec.specs.Calls.{holds}
use Rattle.soil_exec.specs.Kept.{Gives}
use Rattle.soil_exec.specs.Machine as machines
use Rattle.soil_exec.proofs.Each.{each_next, each_step}
use Rattle.soil_exec.proofs.Then.{fails_as}
use Rattle.soil_exec.proofs.calls.hold.Goals as goal

pub contracts-preserved : goal.contracts-preserved
contracts-preserved c = λ m.
    each_next (holds c.args.place c.args.number) c.args.outcomes.now c.contracts.outcome-index c.outcome-item.result m m c.contracts-test.true c.outcome-item.is
    (c.in_ok-holds.ensures m)
    ∙ c.contracts.invariant m

pub returns-in_err-holds : goal.returns-in_err-holds
returns-in_err-holds c = λ m.
    let f = holds c.args.place c.args.number in
    let n = c.contracts.outcome-index in
    let os = c.args.outcomes.now in
    let e = c.in_err-holds.field-0.0 in
    let r = c.from_residual.result in
    let is : r ≡ Err e = search rules in
    subst (λ (o : Outcome machines.Machine ExecFault (Unit {0})). Gives o r m) (c.contracts.invariant m)
    (subst (λ (o : Outcome machines.Machine ExecFault (Unit {0})). Gives o r m) (sym (each_step f os n c.outcome-item.result m c.contracts-test.true c.outcome-item.is))
    (fails_as (f c.outcome-item.result m) (λ u. each f (drop (n + 1) os)) e m r is (c.in_err-holds.ensures m)))
