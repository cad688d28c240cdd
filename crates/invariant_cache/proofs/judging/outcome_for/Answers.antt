use Rattle.std.proofs.Common.{◌≡◌, [], ◌∷◌, length, ap, ◌∙◌}
use Rattle.ocl_values.specs.declared.value.Value.{Value}
use Rattle.ocl_values.specs.declared.value.Value.TheVariants.{Obj}
use Rattle.ocl_eval.specs.Evaluation.{eval_from, told}
use Rattle.ocl_eval.specs.Evaluations.{Outcome}
use Rattle.ocl_eval.specs.Scenes.{scene_of}
use Rattle.invariant_cache.specs.Verdicts.{part}
use Rattle.invariant_cache.proofs.Answered.{if_ok, on_ok}
use Rattle.invariant_cache.proofs.Judgements.{object_well, one_set, spent}
use Rattle.invariant_cache.proofs.judging.outcome_for.Goals as goal

pub set-requires-clause-well_made : goal.set-requires-clause-well_made
set-requires-clause-well_made g c = object_well c.args.instance

pub returns-clause-one : goal.returns-clause-one
returns-clause-one g c = ap length (c.evaluate_in.ensures.env ∙ c.set.ensures ∙ one_set c.args.env.now (Obj c.args.instance) c.requires.one)

pub returns-clause-outcome : goal.returns-clause-outcome
returns-clause-outcome g c =
    let now = g.W.World.picture c.args.world.now in
    let env = c.set.ensures ∙ one_set c.args.env.now (Obj c.args.instance) c.requires.one in
    let same : ◌≡◌ {A = Outcome Value} (eval_from (scene_of c.args.program.now now now) c.set.new.self c.args.invariant.now.expr c.new-reads.result)
    (part c.args.program.now now c.args.invariant.now c.args.instance)
    = λ i. eval_from (scene_of c.args.program.now now now) (env i) c.args.invariant.now.expr (c.new-reads.ensures i) in
    if_ok c.evaluate_in.result (λ x is. is ∙ ap (λ (o : Outcome Value). told o.0) same) c.evaluate_in.ensures.value

pub returns-clause-units : goal.returns-clause-units
returns-clause-units g c =
    let now = g.W.World.picture c.args.world.now in
    let env = c.set.ensures ∙ one_set c.args.env.now (Obj c.args.instance) c.requires.one in
    let same : ◌≡◌ {A = Outcome Value} (eval_from (scene_of c.args.program.now now now) c.set.new.self c.args.invariant.now.expr c.new-reads.result)
    (part c.args.program.now now c.args.invariant.now c.args.instance)
    = λ i. eval_from (scene_of c.args.program.now now now) (env i) c.args.invariant.now.expr (c.new-reads.ensures i) in
    on_ok c.evaluate_in.result (λ is. spent c.args.steps.now c.evaluate_in.new.steps _ (part c.args.program.now now c.args.invariant.now c.args.instance).1.fuel
    is (ap (λ (o : Outcome Value). o.1.fuel) same)
    (c.no_units_are_gained.ensures c.args.program.now now now (Obj c.args.instance ∷ []) c.args.invariant.now.expr)) c.evaluate_in.ensures.units
