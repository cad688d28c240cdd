use Rattle.soil_exec.specs.Values.{value}
use Rattle.soil_exec.proofs.Then.{goes_on}
use Rattle.soil_exec.proofs.walk.Walk.query_value.Goals as goal

pub returns-clause-gives : goal.returns-clause-gives
returns-clause-gives g c = goes_on _ (λ u. value c.args.self.now.setting.program.now c.args.place c.args.e.now) _ _ _ _ c.in_ok-called.ensures.gives c.value.ensures.gives
