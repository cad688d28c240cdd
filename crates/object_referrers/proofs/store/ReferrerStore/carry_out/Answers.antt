use Rattle.std.proofs.Common.{ap, sym, subst, ◌∙◌}
use Rattle.object_state.specs.Faults.{Fits}
use Rattle.object_referrers.specs.Kept.{TellsAll}
use Rattle.object_referrers.specs.Places.{Forgets, TellsMore, slot_key_cmp, slots_brought, slots_left, variable_key_cmp}
use Rattle.object_referrers.proofs.Carried.{carried}
use Rattle.object_referrers.proofs.store.ReferrerStore.carry_out.Goals as goal

pub invariant_of-self-2 : goal.invariant_of-self-2
invariant_of-self-2 c =
    let store = c.self.inside.store in
    let change = c.args.change.now in
    let told = c.prepare.new.self in
    let left = c.forget.new.self in
    let ready = c.in_ok-leaving.ensures in
    let fits : Fits store.layout store.state change = subst (λ d. Fits d.layout d.state change) (sym c.self.view_is) c.requires in
    let brought : TellsMore slot_key_cmp (slots_brought store.layout change) told.slots.keys =
    subst (λ l. TellsMore slot_key_cmp (slots_brought l change) told.slots.keys) c.layout.ensures ready.slots_brought in
    let forgets : Forgets slot_key_cmp (slots_left store.layout change) told.slots.keys left.slots.keys =
    subst (λ ks. Forgets slot_key_cmp ks told.slots.keys left.slots.keys) (ready.slots_left ∙ ap (λ l. slots_left l change) c.layout.ensures) c.forget.ensures.slots in
    let names_forget = subst (λ ks. Forgets variable_key_cmp ks told.variables.keys left.variables.keys) ready.variables_left c.forget.ensures.variables in
    subst (λ d. TellsAll d left.slots.keys left.variables.keys) (sym c.in_ok-carry_out.ensures.ok)
    (carried store.layout store.state change c.state_is_valid.ensures fits _ told.slots.keys left.slots.keys _ told.variables.keys left.variables.keys
    c.self.invariant ready.slots_stay brought forgets ready.variables_stay ready.variables_brought names_forget)
