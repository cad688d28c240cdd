use Rattle.std.proofs.Common.{◌∙◌, ap, subst, sym}
use Rattle.ocl_eval.specs.Parts.{ev_in}
use Rattle.ocl_eval.specs.Evaluations.{Gives}
use Rattle.ocl_eval.specs.Nodes.{binary}
use Rattle.ocl_eval.proofs.Ready.{as_integers}
use Rattle.ocl_eval.proofs.node.Node.binary.Goals as goal

pub returns-in-Int-clause-value : goal.returns-in-Int-clause-value
returns-in-Int-clause-value g c =
    subst (λ o. Gives o c.integers.result c.integers.new.meter) (sym
    (ap (λ op. binary (ev_in g.V.States.now g.V.States.pre c.args.self.now.setting) c.args.locals.now op c.args.a.now c.args.b.now c.args.meter.now) c.in-Int.is
    ∙ as_integers (ev_in g.V.States.now g.V.States.pre c.args.self.now.setting) c.args.locals.now c.in-Int.op c.args.a.now c.args.b.now c.args.meter.now))
    c.integers.ensures.value
