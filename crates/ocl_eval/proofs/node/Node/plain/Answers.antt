use Rattle.std.proofs.Common.{◌≡◌, [], ◌∷◌, subst, sym}
use Rattle.ocl_eval.specs.Evaluations.{Gives}
use Rattle.ocl_eval.specs.Nodes.{plain}
use Rattle.ocl_eval.specs.Parts.{ev_in, scene}
use Rattle.ocl_eval.proofs.Ready.{both_gives, two_items}
use Rattle.ocl_eval.proofs.node.Node.plain.Goals as goal

pub returns-in-Some-clause-value : goal.returns-in-Some-clause-value
returns-in-Some-clause-value g c =
    let found = c.in-Some.ensures.ready in
    let two : c.args.all.now ≡ c.a-item.result ∷ c.b-item.result ∷ [] = two_items c.args.all.now c.a-item.result c.b-item.result c.in-len2.len_at_least c.in-len2.len_below c.a-item.is c.b-item.is in
    subst (λ es. Gives (plain (ev_in g.V.States.now g.V.States.pre c.args.self.now.setting) c.args.locals.now c.args.op es c.args.meter.now) c.plain_ready.result c.plain_ready.new.meter)
    (sym two)
    (subst (λ o. Gives o c.plain_ready.result c.plain_ready.new.meter)
    (sym (both_gives (scene g.V.States.now g.V.States.pre c.args.self.now.setting) c.args.self.now.setting.levels c.args.self.now.setting.at c.args.locals.now c.args.op
    c.a-item.result c.b-item.result c.in-Some.x.now c.in-Some.y.now found.0 found.1 found.2 c.args.meter.now))
    c.plain_ready.ensures.value)
