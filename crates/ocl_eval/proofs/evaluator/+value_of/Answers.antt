use Rattle.std.proofs.Common.{◌≡◌, ap, arith}
use Rattle.ocl_eval.specs.Evaluation.{ev}
use Rattle.ocl_eval.specs.Parts.{scene}
use Rattle.ocl_eval.proofs.Depth.{deeper}
use Rattle.ocl_eval.proofs.evaluator.+value_of.Goals as goal

pub returns-then-setting-eq0-clause-value : goal.returns-then-setting-eq0-clause-value
unfolding ev
returns-then-setting-eq0-clause-value g t c = λ _.
    let none : c.args.setting.now.levels ≡ 0 = omega arith in
    ap (λ n. ev (scene g.V.States.now g.V.States.pre c.args.setting.now) n c.args.setting.now.at c.args.locals.now c.args.e.now c.args.meter.now) none

pub returns-clause-value : goal.returns-clause-value
unfolding ev
returns-clause-value g t c =
    rw (deeper (λ n. ev (scene g.V.States.now g.V.States.pre c.args.setting.now) n c.args.setting.now.at c.args.locals.now c.args.e.now c.args.meter.now) c.args.setting.now.levels (omega arith))
    c.node.ensures.value
