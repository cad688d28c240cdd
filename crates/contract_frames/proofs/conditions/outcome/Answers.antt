use Rattle.std.proofs.Common.{◌≡◌, ◌+◌, ap, subst, sym, ◌∙◌}
use Rattle.ocl_core.specs.Programs.{IsSoundProgram}
use Rattle.ocl_values.specs.declared.value.Value.{Value}
use Rattle.ocl_eval.specs.Evaluation.{eval, eval_from, told}
use Rattle.ocl_eval.specs.Evaluations.{Outcome}
use Rattle.ocl_eval.specs.Scenes.{scene_of}
use Rattle.contract_frames.specs.Judging.{picture}
use Rattle.contract_frames.proofs.Sound.{is_sound, units_spent}
use Rattle.contract_frames.proofs.conditions.outcome.Goals as goal

pub evaluate_in-requires-clause-program : goal.evaluate_in-requires-clause-program
evaluate_in-requires-clause-program g c = subst IsSoundProgram (sym c.as_parts.ensures) (is_sound c.args.case.now.program.now c.is_checked.ensures)

pub returns-clause-value : goal.returns-clause-value
returns-clause-value g c =
    let now = picture c.args.case.now.store.now in
    let pre = g.P.World.picture c.args.case.now.entry.now in
    let same : ◌≡◌ {A = Outcome Value} (eval_from (scene_of c.as_parts.result.now now pre) c.args.env.now c.args.expr.now c.new-reads.result)
    (eval (scene_of c.args.case.now.program.now now pre) c.args.env.now c.args.expr.now) =
    λ i. eval_from (scene_of (c.as_parts.ensures i) now pre) c.args.env.now c.args.expr.now (c.new-reads.ensures i) in
    c.in_ok-told.ensures.value ∙ ap (λ (o : Outcome Value). told o.0) same

pub returns-clause-units : goal.returns-clause-units
returns-clause-units g c =
    let now = picture c.args.case.now.store.now in
    let pre = g.P.World.picture c.args.case.now.entry.now in
    let same : ◌≡◌ {A = Outcome Value} (eval_from (scene_of c.as_parts.result.now now pre) c.args.env.now c.args.expr.now c.new-reads.result)
    (eval (scene_of c.args.case.now.program.now now pre) c.args.env.now c.args.expr.now) =
    λ i. eval_from (scene_of (c.as_parts.ensures i) now pre) c.args.env.now c.args.expr.now (c.new-reads.ensures i) in
    units_spent c.evaluate_in.new.steps c.args.steps.now (eval (scene_of c.args.case.now.program.now now pre) c.args.env.now c.args.expr.now).1.fuel
    (sym (ap (λ (o : Outcome Value). c.evaluate_in.new.steps + o.1.fuel) same) ∙ c.in_ok-told.ensures.units)
    (c.no_units_are_gained.ensures c.args.case.now.program.now now pre c.args.env.now c.args.expr.now)
