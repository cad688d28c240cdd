use Rattle.std.proofs.Common.{◌∙◌, rules, sym}
use Rattle.ocl_eval.specs.Parts.{scene}
use Rattle.ocl_eval.proofs.Ready.{small_gives}
use Rattle.ocl_eval.proofs.node.Node.operand.Goals as goal

pub returns-in-Some-clause-value : goal.returns-in-Some-clause-value
returns-in-Some-clause-value g c =
    small_gives c.in-Some.value c.args.meter.now c.if-meter-gt0.true (scene g.V.States.now g.V.States.pre c.args.self.now.setting) c.args.self.now.setting.levels
    c.args.self.now.setting.at c.args.locals.now c.args.e.now c.if-self-gt0.true (sym c.in-Some.ensures.value ∙ search rules)
