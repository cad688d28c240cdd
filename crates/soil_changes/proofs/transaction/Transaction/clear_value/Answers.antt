use Rattle.std.proofs.Common.{subst}
use Rattle.object_state.specs.Valid.{IsValid}
use Rattle.soil_changes.specs.Progress.{Progress}
use Rattle.soil_changes.proofs.Agreeing.{well_made}
use Rattle.soil_changes.proofs.transaction.Transaction.clear_value.Goals as goal

pub setting-change-requires-clause-well_made : goal.setting-change-requires-clause-well_made
setting-change-requires-clause-well_made c =
    let valid = subst (λ (p : Progress). IsValid p.layout p.state) c.self.view_is c.state_is_valid.ensures in
    c.in_ok-new.ensures.well_made (well_made c.args.self.now.layout c.args.self.now.state valid c.args.place.0 c.args.place.1 c.args.old c.requires)
