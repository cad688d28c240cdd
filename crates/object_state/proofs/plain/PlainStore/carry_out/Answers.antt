use Rattle.std.proofs.Common.{◌∙◌, ap, sym, List, ℕ}
use Rattle.std.specs.BTreeMap.{insert_entry, is_at}
use Rattle.std.specs.Map.{lookup, set_value}
use Rattle.std.specs.Option.{option_map_or}
use Rattle.std.specs.Ordering.{nat_cmp}
use Rattle.ocl_values.specs.declared.value.Value.{Value}
use Rattle.object_state.specs.declared.change.Change.TheVariants.{Create, Remove, SetSlot, Link, Unlink, Bind, Unbind}
use Rattle.object_state.specs.declared.objects.Variable.{Variable}
use Rattle.object_state.specs.Changes.{with_slot}
use Rattle.object_state.specs.State.{text_cmp}
use Rattle.object_state.proofs.Carried.{bound, created, fits_inside, linked, removed, set, unbound, unlinked}
use Rattle.object_state.proofs.Inside.{state_in}
use Rattle.object_state.proofs.plain.PlainStore.carry_out.Goals as goal

pub invariant_of-self-in-Create : goal.invariant_of-self-in-Create
invariant_of-self-in-Create c =
    created c.self.inside.layout (state_in c.self.inside) c.self.invariant c.in-Create.new c.insert.new.self
    (fits_inside c.args.self.now c.self.inside.layout (state_in c.self.inside) c.args.change.now (Create c.in-Create.new) c.self.view_is c.requires
    c.in-Create.is)
    (c.in_ok-insert-in-Create.ensures.ok ∙ ap (λ x. insert_entry nat_cmp c.self.inside.objects c.in-Create.new.object x) c.in_ok-object-in-Create.ensures)

pub invariant_of-self-in-Remove : goal.invariant_of-self-in-Remove
invariant_of-self-in-Remove c =
    removed c.self.inside.layout (state_in c.self.inside) c.self.invariant c.in-Remove.old c.remove.new.self
    (fits_inside c.args.self.now c.self.inside.layout (state_in c.self.inside) c.args.change.now (Remove c.in-Remove.old) c.self.view_is c.requires
    c.in-Remove.is)
    c.remove.ensures

pub invariant_of-self-in-SetSlot : goal.invariant_of-self-in-SetSlot
invariant_of-self-in-SetSlot c =
    set c.self.inside.layout (state_in c.self.inside) c.self.invariant c.in-SetSlot.object c.in-SetSlot.attr c.in-SetSlot.old c.in-SetSlot.new
    c.set_slot.new.self
    (fits_inside c.args.self.now c.self.inside.layout (state_in c.self.inside) c.args.change.now (SetSlot c.in-SetSlot.object c.in-SetSlot.attr c.in-SetSlot.old
    c.in-SetSlot.new) c.self.view_is c.requires c.in-SetSlot.is)
    (c.set_slot.ensures
    ∙ ap (λ (v : Value). option_map_or (λ x. set_value (is_at (nat_cmp c.in-SetSlot.object)) c.self.inside.objects
    (with_slot c.self.inside.layout x c.in-SetSlot.attr v)) (lookup (is_at (nat_cmp c.in-SetSlot.object)) c.self.inside.objects) c.self.inside.objects)
    c.in_ok-value-in-SetSlot.ensures)

pub invariant_of-self-in-Link : goal.invariant_of-self-in-Link
invariant_of-self-in-Link c =
    linked c.self.inside.layout (state_in c.self.inside) c.self.invariant c.in-Link.new c.insert-in-Link.new.self
    (fits_inside c.args.self.now c.self.inside.layout (state_in c.self.inside) c.args.change.now (Link c.in-Link.new) c.self.view_is c.requires c.in-Link.is)
    c.in_ok-insert-in-Link.ensures.ok

pub invariant_of-self-in-Unlink : goal.invariant_of-self-in-Unlink
invariant_of-self-in-Unlink c =
    unlinked c.self.inside.layout (state_in c.self.inside) c.self.invariant c.in-Unlink.old c.remove-in-Unlink.new.self
    (fits_inside c.args.self.now c.self.inside.layout (state_in c.self.inside) c.args.change.now (Unlink c.in-Unlink.old) c.self.view_is c.requires
    c.in-Unlink.is)
    c.remove-in-Unlink.ensures

pub invariant_of-self-in-Bind : goal.invariant_of-self-in-Bind
invariant_of-self-in-Bind c =
    bound c.self.inside.layout (state_in c.self.inside) c.self.invariant c.in-Bind.name c.in-Bind.old c.in-Bind.new c.insert-in-Bind.new.self
    (fits_inside c.args.self.now c.self.inside.layout (state_in c.self.inside) c.args.change.now (Bind c.in-Bind.name c.in-Bind.old c.in-Bind.new)
    c.self.view_is c.requires c.in-Bind.is)
    (c.in_ok-insert-in-Bind.ensures.ok
    ∙ ap (λ (n : List ℕ). insert_entry text_cmp c.self.inside.variables n c.in_ok-try_copy-in-Bind.field-0) (c.in_ok-key-in-Bind.ensures ∙ c.as_str.ensures)
    ∙ ap (λ (v : Variable). insert_entry text_cmp c.self.inside.variables c.in-Bind.name v) c.in_ok-try_copy-in-Bind.ensures)

pub invariant_of-self-in-Unbind : goal.invariant_of-self-in-Unbind
invariant_of-self-in-Unbind c =
    unbound c.self.inside.layout (state_in c.self.inside) c.self.invariant c.in-Unbind.name c.in-Unbind.old c.remove-in-Unbind.new.self
    (fits_inside c.args.self.now c.self.inside.layout (state_in c.self.inside) c.args.change.now (Unbind c.in-Unbind.name c.in-Unbind.old) c.self.view_is
    c.requires c.in-Unbind.is)
    c.remove-in-Unbind.ensures
