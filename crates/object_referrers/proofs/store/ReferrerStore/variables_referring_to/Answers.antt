use Rattle.std.proofs.Common.{IfOk, ap, subst, ◌≡◌, ◌∙◌}
use Rattle.object_referrers.specs.Referring.{variables_referring_to}
use Rattle.object_referrers.proofs.Names.{names_told}
use Rattle.object_referrers.proofs.store.ReferrerStore.variables_referring_to.Goals as goal

pub returns : goal.returns
returns c =
    let store = c.self.inside.store in
    let is = names_told store.layout store.state c.args.object _ _ c.state_is_valid.ensures c.names_at.ensures.ordered c.self.invariant
    ∙ ap (λ d. variables_referring_to d.state c.args.object) c.self.view_is in
    subst (λ l. IfOk c.names_at.result (λ v. v.items ≡ l)) is c.names_at.ensures.names
