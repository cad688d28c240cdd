use Rattle.std.proofs.Common.{◌≤◌}
use Rattle.object_state.specs.Faults.{BindingAgrees, SettingAgrees}
use Rattle.object_state.specs.Weights.{lost}
use Rattle.object_state.proofs.Bounds.{old_slot_fits, old_variable_fits}
use Rattle.std.proofs.Common.{◌∙◌, sym}
use Rattle.object_state.proofs.fitting.fault.Goals as goal

pub size_fault-requires : goal.size_fault-requires
size_fault-requires g c =
    let agrees = rw c.in-SetSlot.is at c.requires.agrees in
    rw c.in-SetSlot.is (old_slot_fits _ _ c.in-SetSlot.object c.in-SetSlot.attr c.in-SetSlot.old c.in-SetSlot.new c.requires.valid agrees (sym c.is_gone.ensures
    ∙ c.if-is_gone.false))

pub size_fault-requires-else-is_object_name : goal.size_fault-requires-else-is_object_name
size_fault-requires-else-is_object_name g c =
    let agrees = rw c.in-Bind.is at c.requires.agrees in
    rw c.in-Bind.is (old_variable_fits _ _ c.in-Bind.name c.in-Bind.old c.in-Bind.new c.requires.valid agrees)
