use Rattle.std.proofs.Common.{rules, sym}
use Rattle.ocl_eval.specs.Parts.{scene}
use Rattle.ocl_eval.proofs.Ready.{ready_gives}
use Rattle.ocl_eval.proofs.node.Node.integer.Goals as goal

pub returns-then-is_some-clause-value : goal.returns-then-is_some-clause-value
returns-then-is_some-clause-value g c =
    ready_gives c.ready-found.result c.args.meter.now (scene g.V.States.now g.V.States.pre c.args.self.now.setting) c.args.self.now.setting.levels
    c.args.self.now.setting.at c.args.locals.now c.args.e.now (search rules) c.if-meter-gt0.true c.if-self-gt0.true (sym c.ready-found.ensures)
