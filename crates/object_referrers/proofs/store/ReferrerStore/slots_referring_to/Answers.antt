use Rattle.std.proofs.Common.{IfOk, ap, subst, ◌≡◌, ◌∙◌}
use Rattle.object_referrers.specs.Referring.{slots_referring_to}
use Rattle.object_referrers.proofs.Attributes.{slots_told}
use Rattle.object_referrers.proofs.store.ReferrerStore.slots_referring_to.Goals as goal

pub returns : goal.returns
returns c =
    let store = c.self.inside.store in
    let is = slots_told store.layout store.state c.args.object _ _ c.state_is_valid.ensures c.slots_at.ensures.ordered c.self.invariant
    ∙ ap (λ d. slots_referring_to d.layout d.state c.args.object) c.self.view_is in
    subst (λ l. IfOk c.slots_at.result (λ v. v.items ≡ l)) is c.slots_at.ensures.slots
