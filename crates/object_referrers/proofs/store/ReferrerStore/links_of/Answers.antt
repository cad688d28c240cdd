use Rattle.std.proofs.Common.{IfOk, length, ap, subst, ◌≡◌, ◌∙◌}
use Rattle.use_orders.specs.Canon.{set_of}
use Rattle.object_referrers.specs.Gathered.{links_among}
use Rattle.object_referrers.specs.Referring.{links_of}
use Rattle.object_referrers.proofs.Linked.{entry_cmp, entry_exact, links_told}
use Rattle.object_referrers.proofs.store.ReferrerStore.links_of.Goals as goal

pub set-requires : goal.set-requires
set-requires c = record { exact = entry_exact }

pub returns : goal.returns
returns c =
    let store = c.self.inside.store in
    let is = ap (set_of entry_cmp) c.in_ok-found.ensures
    ∙ ap (λ n. set_of entry_cmp (links_among store.state.links c.args.object n)) (c.len-assocs.ensures ∙ ap (λ l. length l.assocs) c.layout.ensures)
    ∙ links_told store.layout store.state c.args.object c.state_is_valid.ensures
    ∙ ap (λ d. links_of d.state c.args.object) c.self.view_is in
    subst (λ l. IfOk c.set.result (λ v. v.items ≡ l)) is c.set.ensures
