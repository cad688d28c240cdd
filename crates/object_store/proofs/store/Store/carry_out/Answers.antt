use Rattle.std.proofs.Common.{◌+◌, ◌≤◌, ◌∙◌, ap, refl, sym, subst, ℕ, List}
use Rattle.std.specs.BTreeMap.{insert_entry, is_at}
use Rattle.std.specs.Map.{remove_entry, set_value}
use Rattle.std.specs.Option.{option_map_or}
use Rattle.std.specs.Ordering.{nat_cmp}
use Rattle.ocl_values.specs.declared.value.Value.{Value}
use Rattle.object_state.specs.declared.change.Change.TheVariants.{Create, Remove, SetSlot, Link, Unlink, Bind, Unbind}
use Rattle.object_state.specs.Changes.{with_slot}
use Rattle.object_state.specs.State.{text_cmp}
use Rattle.object_state.specs.Valid.{max_weight}
use Rattle.object_state.specs.Weights.{gained, lost}
use Rattle.object_state.proofs.Carried.{fits_inside}
use Rattle.object_store.specs.Indexes.{object_in}
use Rattle.object_store.specs.Held.{state_in}
use Rattle.object_store.proofs.Carried.{carried, gained_fits, held, link_is_there, lost_fits, lost_was_there}
use Rattle.object_store.proofs.Carried.{stored}
use Rattle.object_store.proofs.store.Store.carry_out.Goals as goal

pub weight_after-weight-requires-clause-lost : goal.weight_after-weight-requires-clause-lost
weight_after-weight-requires-clause-lost c = lost_fits c.self.inside.objects.layout (state_in c.self.inside) c.self.invariant.valid c.args.change.now
    (fits_inside c.args.self.now c.self.inside.objects.layout (state_in c.self.inside) c.args.change.now c.args.change.now c.self.view_is c.requires refl)

pub weight_after-weight-requires-clause-gained : goal.weight_after-weight-requires-clause-gained
weight_after-weight-requires-clause-gained c =
    subst (λ (n : ℕ). n + gained c.args.change.now ≤ max_weight + max_weight) (sym c.self.invariant.weight)
    (gained_fits c.self.inside.objects.layout (state_in c.self.inside) c.self.invariant.valid c.args.change.now
    (fits_inside c.args.self.now c.self.inside.objects.layout (state_in c.self.inside) c.args.change.now c.args.change.now c.self.view_is c.requires refl))

pub weight_after-weight-requires-clause-there : goal.weight_after-weight-requires-clause-there
weight_after-weight-requires-clause-there c =
    subst (λ (n : ℕ). lost c.args.change.now ≤ n + gained c.args.change.now) (sym c.self.invariant.weight)
    (lost_was_there c.self.inside.objects.layout (state_in c.self.inside) c.self.invariant.valid c.args.change.now
    (fits_inside c.args.self.now c.self.inside.objects.layout (state_in c.self.inside) c.args.change.now c.args.change.now c.self.view_is c.requires refl))

pub invariant_of-self-in-Create : goal.invariant_of-self-in-Create
invariant_of-self-in-Create c =
    let k = carried c.args.self.now (held c.insert.new.self c.self.inside.links c.self.inside.variables c.in-Create.new.after c.self.inside.next_stamp)
    c.self.inside.objects.layout (state_in c.self.inside) c.args.change.now
    (Create c.in-Create.new) c.self.inside.weight c.weight_after-weight.result c.self.view_is c.requires c.in-Create.is
    c.self.invariant.valid c.self.invariant.weight c.weight_after-weight.ensures
    (λ i. held (c.in_ok-insert-in-Create.ensures.ok i) c.self.inside.links c.self.inside.variables c.in-Create.new.after c.self.inside.next_stamp)
    in record { valid = k.0; weight = k.1 }

pub invariant_of-self-in-Remove : goal.invariant_of-self-in-Remove
invariant_of-self-in-Remove c =
    let k = carried c.args.self.now (held c.remove.new.self c.self.inside.links c.self.inside.variables c.in-Remove.old.after c.self.inside.next_stamp)
    c.self.inside.objects.layout (state_in c.self.inside) c.args.change.now
    (Remove c.in-Remove.old) c.self.inside.weight c.weight_after-weight.result c.self.view_is c.requires c.in-Remove.is
    c.self.invariant.valid c.self.invariant.weight c.weight_after-weight.ensures
    (λ i. held (c.remove.ensures i) c.self.inside.links c.self.inside.variables c.in-Remove.old.after c.self.inside.next_stamp)
    in record { valid = k.0; weight = k.1 }

pub invariant_of-self-in-SetSlot : goal.invariant_of-self-in-SetSlot
invariant_of-self-in-SetSlot c =
    let k = carried c.args.self.now (held c.set_slot.new.self c.self.inside.links c.self.inside.variables c.self.inside.next_object c.self.inside.next_stamp)
    c.self.inside.objects.layout (state_in c.self.inside) c.args.change.now
    (SetSlot c.in-SetSlot.object c.in-SetSlot.attr c.in-SetSlot.old c.in-SetSlot.new) c.self.inside.weight c.weight_after-weight.result c.self.view_is
    c.requires c.in-SetSlot.is
    c.self.invariant.valid c.self.invariant.weight c.weight_after-weight.ensures
    (stored c.self.inside.objects.layout (state_in c.self.inside) c.in-SetSlot.object c.in-SetSlot.attr c.in-SetSlot.old c.in-SetSlot.new c.set_slot.new.self
    (c.set_slot.ensures ∙ ap (λ (v : Value). record {
      layout = c.self.inside.objects.layout;
      objects = option_map_or (λ x. set_value (is_at (nat_cmp c.in-SetSlot.object)) c.self.inside.objects.objects (with_slot c.self.inside.objects.layout x
          c.in-SetSlot.attr v)) (object_in c.self.inside.objects.objects c.in-SetSlot.object) c.self.inside.objects.objects;
    }) c.in_ok-value-in-SetSlot.ensures))
    in record { valid = k.0; weight = k.1 }

pub invariant_of-self-in-Link : goal.invariant_of-self-in-Link
invariant_of-self-in-Link c =
    let k = carried c.args.self.now (held c.self.inside.objects c.insert-in-Link.new.self c.self.inside.variables c.self.inside.next_object c.in-Link.new.after)
    c.self.inside.objects.layout (state_in c.self.inside) c.args.change.now
    (Link c.in-Link.new) c.self.inside.weight c.weight_after-weight.result c.self.view_is c.requires c.in-Link.is
    c.self.invariant.valid c.self.invariant.weight c.weight_after-weight.ensures
    (λ i. held c.self.inside.objects (c.in_ok-insert-in-Link.ensures.ok i) c.self.inside.variables c.self.inside.next_object c.in-Link.new.after)
    in record { valid = k.0; weight = k.1 }

pub invariant_of-self-in-Unlink : goal.invariant_of-self-in-Unlink
invariant_of-self-in-Unlink c =
    let k = carried c.args.self.now (held c.self.inside.objects c.remove-in-Unlink.new.self c.self.inside.variables c.self.inside.next_object
    c.in-Unlink.old.after)
    c.self.inside.objects.layout (state_in c.self.inside) c.args.change.now
    (Unlink c.in-Unlink.old) c.self.inside.weight c.weight_after-weight.result c.self.view_is c.requires c.in-Unlink.is
    c.self.invariant.valid c.self.invariant.weight c.weight_after-weight.ensures
    (λ i. held c.self.inside.objects (c.remove-in-Unlink.ensures i) c.self.inside.variables c.self.inside.next_object c.in-Unlink.old.after)
    in record { valid = k.0; weight = k.1 }

pub invariant_of-self-in-Bind : goal.invariant_of-self-in-Bind
invariant_of-self-in-Bind c =
    let k = carried c.args.self.now (held c.self.inside.objects c.self.inside.links c.insert-in-Bind.new.self c.self.inside.next_object
    c.self.inside.next_stamp)
    c.self.inside.objects.layout (state_in c.self.inside) c.args.change.now
    (Bind c.in-Bind.name c.in-Bind.old c.in-Bind.new) c.self.inside.weight c.weight_after-weight.result c.self.view_is c.requires c.in-Bind.is
    c.self.invariant.valid c.self.invariant.weight c.weight_after-weight.ensures
    (λ i. held c.self.inside.objects c.self.inside.links ((c.in_ok-insert-in-Bind.ensures.ok
    ∙ (λ j. insert_entry text_cmp c.self.inside.variables (c.as_str.ensures j)
    (c.in_ok-value-in-Bind.ensures j))) i) c.self.inside.next_object c.self.inside.next_stamp)
    in record { valid = k.0; weight = k.1 }

pub invariant_of-self-in-Unbind : goal.invariant_of-self-in-Unbind
invariant_of-self-in-Unbind c =
    let k = carried c.args.self.now (held c.self.inside.objects c.self.inside.links c.remove-in-Unbind.new.self c.self.inside.next_object
    c.self.inside.next_stamp)
    c.self.inside.objects.layout (state_in c.self.inside) c.args.change.now
    (Unbind c.in-Unbind.name c.in-Unbind.old) c.self.inside.weight c.weight_after-weight.result c.self.view_is c.requires c.in-Unbind.is
    c.self.invariant.valid c.self.invariant.weight c.weight_after-weight.ensures
    (λ i. held c.self.inside.objects c.self.inside.links ((c.remove-in-Unbind.ensures
    ∙ ap (λ (n : List ℕ). remove_entry (is_at (text_cmp n)) c.self.inside.variables) c.as_str-in-Unbind.ensures) i) c.self.inside.next_object
    c.self.inside.next_stamp)
    in record { valid = k.0; weight = k.1 }

pub remove-requires-in-Unlink : goal.remove-requires-in-Unlink
remove-requires-in-Unlink c =
    link_is_there c.self.inside.objects.layout (state_in c.self.inside) c.self.invariant.valid c.in-Unlink.old
    (fits_inside c.args.self.now c.self.inside.objects.layout (state_in c.self.inside) c.args.change.now
    (Unlink c.in-Unlink.old) c.self.view_is c.requires c.in-Unlink.is)
