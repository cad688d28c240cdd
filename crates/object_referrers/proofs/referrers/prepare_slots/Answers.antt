use Rattle.std.proofs.Common.{◌≡◌, IfOk, OnOk, ap, ap₂, sym, subst, ◌∙◌}
use Rattle.use_orders.specs.Canon.{has, without}
use Rattle.object_referrers.specs.Places.{TellsMore, slot_key_cmp, slots_brought, slots_left}
use Rattle.object_referrers.proofs.referrers.prepare_slots.Goals as goal

pub returns-in_ok-put_all-in-Create-clause-brought : goal.returns-in_ok-put_all-in-Create-clause-brought
returns-in_ok-put_all-in-Create-clause-brought c =
    let same : c.in_ok-keys-in-Create.keys.items ≡ slots_brought c.args.layout.now c.args.change.now =
    c.in_ok-keys-in-Create.ensures ∙ sym (ap (slots_brought c.args.layout.now) c.in-Create.is) in
    λ q h. c.in_ok-put_all-in-Create.ensures.put q (ap (λ ks. has slot_key_cmp ks q) same ∙ h)

pub returns-in_ok-new-in-SetSlot-clause-brought : goal.returns-in_ok-new-in-SetSlot-clause-brought
returns-in_ok-new-in-SetSlot-clause-brought c =
    let same : c.in_ok-new-in-SetSlot.new.items ≡ slots_brought c.args.layout.now c.args.change.now =
    c.in_ok-new-in-SetSlot.ensures ∙ sym (ap (slots_brought c.args.layout.now) c.in-SetSlot.is) in
    subst (λ ks. OnOk c.replaced.result (TellsMore slot_key_cmp ks c.replaced.new.index.keys)) same c.replaced.ensures.put

pub returns-in_ok-new-in-SetSlot-clause-left : goal.returns-in_ok-new-in-SetSlot-clause-left
returns-in_ok-new-in-SetSlot-clause-left c =
    let same : without slot_key_cmp c.in_ok-old-in-SetSlot.old.items c.in_ok-new-in-SetSlot.new.items ≡ slots_left c.args.layout.now c.args.change.now =
    ap₂ (λ os ns. without slot_key_cmp os ns) c.in_ok-old-in-SetSlot.ensures c.in_ok-new-in-SetSlot.ensures
    ∙ sym (ap (slots_left c.args.layout.now) c.in-SetSlot.is) in
    subst (λ ks. IfOk c.replaced.result (λ v. v.items ≡ ks)) same c.replaced.ensures.left
