use Rattle.std.proofs.Common.{subst, sym}
use Rattle.object_state.specs.declared.change.Change.{Change}
use Rattle.object_state.specs.Faults.{OldPartsAgree}
use Rattle.object_state.proofs.Proposed.{creation_agrees}
use Rattle.object_state.proofs.proposals.creation.Goals as goal

pub returns-clause-agrees : goal.returns-clause-agrees
returns-clause-agrees g c =
    let d = g.S.StateReader.held c.args.store.now in
    subst (λ (x : Change). OldPartsAgree d.layout d.state x) (sym c.in_ok-change.ensures)
    (creation_agrees d.layout d.state c.args.name c.args.class c.state_is_valid.ensures c.requires)
