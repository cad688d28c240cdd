use Rattle.std.proofs.Common.{subst}
use Rattle.object_state.specs.Valid.{IsValid}
use Rattle.soil_changes.specs.Progress.{Progress}
use Rattle.soil_changes.proofs.transaction.Transaction.clear_bound.Goals as goal

pub binding-requires : goal.binding-requires
binding-requires c =
    let valid = subst (λ (p : Progress). IsValid p.layout p.state) c.self.view_is c.state_is_valid.ensures in
    c.in_ok-value.ensures.well_made (valid.variables.values c.args.name.now c.args.old c.requires)
