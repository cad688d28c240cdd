use Rattle.std.proofs.Common.{rules, ◌≡◌, ◌-◌, Err, sym, ap, subst, ◌∙◌}
use Rattle.std.specs.Prelude.{replicate}
use Rattle.soil_exec.specs.declared.fault.ExecFault.{ExecFault}
use Rattle.ocl_values.specs.declared.value.Value.TheVariants.{Null}
use Rattle.soil_changes.specs.Acts.{Outcome, each, then_act}
use Rattle.soil_exec.specs.Kept.{Gives, stand}
use Rattle.soil_exec.specs.Machine.{Machine, push}
use Rattle.soil_exec.proofs.Rounds.{push_step}
use Rattle.soil_exec.proofs.Then.{fails_as}
use Rattle.soil_exec.proofs.machine.Machine.declare.Goals as goal

pub returns-in_err-push-clause-gives : goal.returns-in_err-push-clause-gives
returns-in_err-push-clause-gives c = λ steps.
    let e = c.in_err-push.field-0.0 in
    let r = c.from_residual.result in
    let is : r ≡ Err e = search rules in
    let m = stand c.variables.self steps in
    let after = stand c.push.new.self steps in
    subst (λ (o : Outcome Machine ExecFault (Unit {0})). Gives o r after) (c.variables.invariant.same steps)
    (subst (λ (o : Outcome Machine ExecFault (Unit {0})). Gives o r after) (sym (push_step c.variables.left m c.variables-test.true))
    (fails_as (push Null m) (λ u. each push (replicate (c.variables.left - 1) Null)) e after r is (c.in_err-push.ensures.gives steps)))

pub variables-preserved : goal.variables-preserved
variables-preserved c = record {
  same = λ steps.
      sym (push_step c.variables.left (stand c.variables.self steps) c.variables-test.true
      ∙ ap (λ (o : Outcome Machine ExecFault (Unit {0})). then_act o (λ u. each push (replicate (c.variables.left - 1) Null))) (c.in_ok-push.ensures.gives steps))
      ∙ c.variables.invariant.same steps;
  follows = record {
    current = c.in_ok-push.ensures.follows.current;
    layout = c.in_ok-push.ensures.follows.layout ∙ c.variables.invariant.follows.layout;
    shell = c.in_ok-push.ensures.follows.shell ∙ c.variables.invariant.follows.shell;
    depth = c.in_ok-push.ensures.follows.depth ∙ c.variables.invariant.follows.depth;
  };
}
