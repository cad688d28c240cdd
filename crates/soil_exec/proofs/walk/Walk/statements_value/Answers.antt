use Rattle.std.proofs.Common.{length, ap, ◌∙◌}
use Rattle.soil_exec.specs.Calls.{local_at}
use Rattle.soil_exec.proofs.Checked.{body_holds}
use Rattle.soil_exec.proofs.Then.{goes_on}
use Rattle.soil_exec.proofs.walk.Walk.statements_value.Goals as goal

pub called-requires-clause-body : goal.called-requires-clause-body
called-requires-clause-body g c = body_holds c.args.self.now.setting.program.now.model c.args.body.now c.requires.body

pub local_at-requires : goal.local_at-requires
local_at-requires g c = record { unnamed = ap length c.in_ok-called.ensures.follows.shell ∙ c.requires.unnamed }

pub returns-clause-gives : goal.returns-clause-gives
returns-clause-gives g c =
    goes_on _ (λ u. local_at c.args.result_place) _ _ _ _ c.in_ok-called.ensures.gives (c.local_at.ensures.gives (g.V.Evaluator.count c.called.new.steps))
