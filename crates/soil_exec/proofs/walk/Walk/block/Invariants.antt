use Rattle.std.proofs.Common.{◌≡◌, length}
use Rattle.soil_exec.specs.Bodies.{IsBody}
use Rattle.soil_exec.specs.Kept.{Follows, stand}
use Rattle.soil_exec.specs.Parts.{called_in, inside_in}
use Rattle.soil_exec.specs.Statements.{block}
use Rattle.soil_exec.proofs.walk.Walk.block.Given as goal

abbrev pub invariant-statements : goal.invariant-statements
invariant-statements g l = record {
  same : block l.self.setting.program.now (inside_in l.self.setting) (called_in l.self.setting) l.self.setting.told l.outer l.rest (stand l.machine (g.V.Evaluator.count l.steps))
      ≡ block l.self.setting.program.now (inside_in l.self.setting) (called_in l.self.setting) l.self.setting.told l.outer l.fn.body (stand l.fn.machine (g.V.Evaluator.count l.fn.steps));
  follows : Follows l.fn.machine l.machine;
  body : IsBody l.self.setting.program.now.model l.rest;
}

abbrev pub decreases-statements : goal.decreases-statements
decreases-statements g l = length l.rest
