use Rattle.std.proofs.Common.{rules, ◌≡◌, Err}
use Rattle.soil_changes.specs.Storing.{refuse_unless_stored}
use Rattle.soil_exec.specs.Kept.{stand}
use Rattle.soil_exec.specs.Machine.{changing}
use Rattle.soil_exec.specs.Targets.{set_local}
use Rattle.soil_exec.proofs.Then.{fails_as}
use Rattle.soil_exec.proofs.machine.Machine.put_local.Goals as goal

pub returns-in_err-check_stored-clause-gives : goal.returns-in_err-check_stored-clause-gives
returns-in_err-check_stored-clause-gives c =
    let e = c.in_err-check_stored.field-0.0 in
    let is : c.from_residual.result ≡ Err e = search rules in
    λ steps. fails_as (changing c.args.place (refuse_unless_stored c.args.value) (stand c.args.self.now steps)) (λ u. set_local c.args.number c.args.value) e
    (stand c.args.self.now steps) c.from_residual.result is (c.in_err-check_stored.ensures steps)
