use Rattle.std.proofs.Common.{◌≡◌}
use Rattle.soil_exec.specs.Kept.{Follows, stand}
use Rattle.soil_exec.specs.Parts.{inside_in}
use Rattle.soil_exec.specs.Statements.{rounds, while_true}
use Rattle.soil_exec.proofs.walk.Walk.while_true.Given as goal

abbrev pub invariant-rounds : goal.invariant-rounds
invariant-rounds g l = record {
  same : rounds l.self.setting.program.now (inside_in l.self.setting) l.place l.test l.body l.most (stand l.machine (g.V.Evaluator.count l.steps))
      ≡ while_true l.self.setting.program.now (inside_in l.self.setting) l.place l.test l.body (stand l.fn.machine (g.V.Evaluator.count l.fn.steps));
  follows : Follows l.fn.machine l.machine;
}

abbrev pub decreases-rounds : goal.decreases-rounds
decreases-rounds g l = l.most
