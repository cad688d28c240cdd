use Rattle.std.proofs.Common.{sym, subst}
use Rattle.ocl_core.specs.declared.program.OpBody.{OpBody}
use Rattle.soil_exec.specs.Calls.{given_by}
use Rattle.soil_exec.specs.Kept.{Gives, stand}
use Rattle.soil_exec.specs.Parts.{called_in}
use Rattle.soil_exec.proofs.walk.Walk.given_by.Goals as goal

pub returns-in-Query-clause-gives : goal.returns-in-Query-clause-gives
returns-in-Query-clause-gives g c =
    let s = c.args.self.now.setting in
    let m = stand c.args.machine.now (g.V.Evaluator.count c.args.steps.now) in
    subst (λ (b : OpBody). Gives (given_by s.program.now (called_in s) c.args.place c.args.call b m) c.framed_query.result
    (stand c.framed_query.new.machine (g.V.Evaluator.count c.framed_query.new.steps))) (sym c.in-Query.is) c.framed_query.ensures.gives
