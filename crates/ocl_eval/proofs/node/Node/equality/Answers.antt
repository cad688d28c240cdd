use Rattle.std.proofs.Common.{◌∙◌, rules, subst, sym}
use Rattle.ocl_values.specs.Logic.{same_value}
use Rattle.ocl_eval.specs.Evaluations.{Gives, pay, then_with}
use Rattle.ocl_eval.specs.Parts.{scene}
use Rattle.ocl_eval.proofs.Ready.{small_gives}
use Rattle.ocl_eval.proofs.node.Node.equality.Goals as goal

pub returns-in-Some-clause-value : goal.returns-in-Some-clause-value
returns-in-Some-clause-value g c =
    subst (λ o. Gives (then_with o (λ y. pay (same_value c.args.x y))) c.pay.result c.pay.new.meter)
    (sym (small_gives c.in-Some.y c.args.meter.now c.if-meter-gt0.true (scene g.V.States.now g.V.States.pre c.args.self.now.setting) c.args.self.now.setting.levels
    c.args.self.now.setting.at c.args.locals.now c.args.b.now c.if-self-gt0.true (sym c.in-Some.ensures.value ∙ search rules)))
    (rw c.same.ensures.value at c.pay.ensures.value)
