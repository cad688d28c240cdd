use Rattle.std.proofs.Common.{subst, sym}
use Rattle.object_state.specs.declared.change.Change.{Change}
use Rattle.object_state.specs.Faults.{OldPartsAgree}
use Rattle.soil_changes.proofs.Agreeing.{removal_agrees}
use Rattle.soil_changes.proofs.proposals.removal.Goals as goal

pub returns-clause-agrees : goal.returns-clause-agrees
returns-clause-agrees c =
    let d = c.args.store.now in
    subst (λ (x : Change). OldPartsAgree d.layout d.state x) (sym c.in_ok-change.ensures)
    (removal_agrees d.layout d.state c.state_is_valid.ensures c.args.number c.args.live.now c.requires.live c.requires.unlinked)
