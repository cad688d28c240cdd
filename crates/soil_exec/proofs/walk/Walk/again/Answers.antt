use Rattle.std.proofs.Common.{rules, ◌≡◌, Err, true}
use Rattle.soil_changes.specs.Acts.{pure}
use Rattle.soil_exec.specs.Machine.{count}
use Rattle.soil_exec.proofs.Then.{fails_as, goes_on}
use Rattle.soil_exec.proofs.walk.Walk.again.Goals as goal

pub returns-in_err-count-clause-gives : goal.returns-in_err-count-clause-gives
returns-in_err-count-clause-gives g c =
    let e = c.in_err-count.field-0.0 in
    let r = c.from_residual-in_err-count.result in
    let is : r ≡ Err e = search rules in
    fails_as _ (λ u. pure true) e _ r is
    (goes_on _ (λ u. count c.args.place) _ _ (Err e) _ c.in_ok-inside.ensures.gives (c.in_err-count.ensures.gives (g.V.Evaluator.count c.inside.new.steps)))
