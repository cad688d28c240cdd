use Rattle.std.proofs.Common.{Result, subst}
use Rattle.soil_changes.specs.declared.fault.ChangeFault.{ChangeFault}
use Rattle.soil_exec.specs.Acted.{WasDone}
use Rattle.soil_exec.proofs.Settled.{settled}
use Rattle.soil_exec.proofs.machine.Machine.settle.Goals as goal

pub returns-in_ok-refresh-in-Ok : goal.returns-in_ok-refresh-in-Ok
returns-in_ok-refresh-in-Ok c = λ act before steps d.
    settled act before c.args.since steps c.args.place c.args.self.now c.refresh.new.self
    (subst (λ (r : Result (Unit {0}) ChangeFault). WasDone act before c.args.self.now c.args.since r) c.in-Ok.is d) c.changes.ensures.led c.names_differ.ensures
    c.in_ok-refresh-in-Ok.ensures.refreshed
