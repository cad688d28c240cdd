use Rattle.std.proofs.Common.{subst}
use Rattle.soil_changes.specs.Progress.{Lead, Progress}
use Rattle.soil_changes.proofs.Back.{lead}
use Rattle.soil_changes.proofs.transaction.Transaction.end.Goals as goal

pub returns-clause-lead : goal.returns-clause-lead
returns-clause-lead c =
    subst (λ (p : Progress). Lead p.layout p.start p.changes p.state) c.self.view_is
    (lead c.self.inside.store.layout c.self.inside.changes.items c.self.inside.store.state c.state_is_valid.ensures c.self.invariant.back)
