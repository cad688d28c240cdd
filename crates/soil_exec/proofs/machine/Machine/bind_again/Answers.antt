use Rattle.std.proofs.Common.{Result, Ok, sym, subst, ◌∙◌}
use Rattle.std.specs.Prelude.{OnOk}
use Rattle.ocl_values.specs.declared.value.Value.{Value}
use Rattle.soil_changes.specs.Adding.{Adds}
use Rattle.soil_exec.specs.declared.fault.ExecFault.{ExecFault}
use Rattle.soil_exec.specs.declared.machine.Machine.{Machine as Kept}
use Rattle.soil_exec.specs.Acted.{Returns}
use Rattle.soil_exec.specs.Kept.{Gives, stand}
use Rattle.soil_exec.proofs.Apart.{gives_again, returned}
use Rattle.soil_exec.proofs.machine.Machine.bind_again.Goals as goal

pub returns-clause-gives : goal.returns-clause-gives
returns-clause-gives c = λ before n steps o is h.
    let now = c.args.self.now in
    let done = subst (λ (r : Result Value ExecFault). Gives o r (stand now steps)) c.in_ok-value.was h in
    gives_again before c.args.bound is n steps now c.in_ok-value.value o done
    ∙ (λ i. (Ok c.in_ok-value.value, stand (sym c.in_ok-refresh.ensures.refreshed i) steps))

pub returns-clause-returns : goal.returns-clause-returns
returns-clause-returns c = λ before is h.
    let now = c.args.self.now in
    let adds = subst (λ (r : Result Value ExecFault). OnOk r (Adds before.transaction now.transaction)) c.in_ok-value.was h in
    subst (λ (k : Kept). Returns before k) (sym c.in_ok-refresh.ensures.refreshed)
    (returned before c.args.bound is now adds c.changes.ensures.led c.names_differ.ensures)
