use Rattle.std.proofs.Common.{rules, ◌≡◌, All, Err, List, sym, subst, ◌∙◌}
use Rattle.std.proofs.lemmas.List.Elements.{All-push}
use Rattle.soil_exec.specs.declared.fault.ExecFault.{ExecFault}
use Rattle.ocl_values.specs.declared.value.Value.{Value}
use Rattle.ocl_values.specs.Shape.{IsWellMade}
use Rattle.soil_changes.specs.Acts.{Outcome}
use Rattle.soil_exec.specs.Kept.{Gives, stand}
use Rattle.soil_exec.specs.Machine.{Machine}
use Rattle.soil_exec.specs.Values.{value}
use Rattle.soil_exec.proofs.Listed.{further, values_next, values_step}
use Rattle.soil_exec.proofs.Then.{fails_as}
use Rattle.soil_exec.proofs.machine.Machine.values.Goals as goal

pub returns-in_err-value-clause-gives : goal.returns-in_err-value-clause-gives
returns-in_err-value-clause-gives g c =
    let p = c.args.setting.now.program.now in
    let n = c.expressions.e-index in
    let m = stand c.expressions.self (g.V.Evaluator.count c.expressions.steps) in
    let after = stand c.value.new.self (g.V.Evaluator.count c.value.new.steps) in
    let e = c.in_err-value.field-0.0 in
    let r = c.from_residual.result in
    let is : r ≡ Err e = search rules in
    subst (λ (o : Outcome Machine ExecFault (List Value)). Gives o r after) c.expressions.invariant.same
    (subst (λ (o : Outcome Machine ExecFault (List Value)). Gives o r after)
    (sym (values_step p c.args.place c.expressions.values c.args.es.now n c.e-item.result m c.expressions-test.true c.e-item.is))
    (fails_as (value p c.args.place c.e-item.result m) (further p c.args.place c.expressions.values c.args.es.now n) e after r is c.in_err-value.ensures.gives))

pub expressions-preserved : goal.expressions-preserved
expressions-preserved g c = record {
  same =
      values_next c.args.setting.now.program.now c.args.place c.expressions.values c.args.es.now c.expressions.e-index c.e-item.result c.in_ok-value.value
      c.push.new.self (stand c.expressions.self (g.V.Evaluator.count c.expressions.steps)) (stand c.value.new.self (g.V.Evaluator.count c.value.new.steps))
      c.expressions-test.true c.e-item.is c.in_ok-value.ensures.gives c.in_ok-push.ensures.ok
      ∙ c.expressions.invariant.same;
  follows = record {
    current = c.in_ok-value.ensures.follows.current;
    layout = c.in_ok-value.ensures.follows.layout ∙ c.expressions.invariant.follows.layout;
    shell = c.in_ok-value.ensures.follows.shell ∙ c.expressions.invariant.follows.shell;
    depth = c.in_ok-value.ensures.follows.depth ∙ c.expressions.invariant.follows.depth;
  };
  well_made = subst (All IsWellMade) (sym c.in_ok-push.ensures.ok) (All-push IsWellMade c.expressions.values c.in_ok-value.value c.expressions.invariant.well_made
      c.in_ok-value.ensures.well_made);
}
