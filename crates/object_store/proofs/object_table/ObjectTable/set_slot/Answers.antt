use Rattle.std.specs.Map.{keys_of}
use Rattle.std.proofs.Common.{refl}
use Rattle.std.specs.HashMap.{get_by_text}
use Rattle.object_store.proofs.Tables.{object_set, tied_with}
use Rattle.object_store.proofs.object_table.ObjectTable.set_slot.Goals as goal

pub invariant_of-self : goal.invariant_of-self
invariant_of-self c =
    tied_with c.self.inside.layout _ c.set_slot.new.self (get_by_text c.self.inside.names) (get_by_text c.self.inside.names) (keys_of c.self.inside.extents)
    (keys_of c.self.inside.extents) c.set_slot.ensures (λ n. refl) refl
    (object_set c.self.inside.layout c.self.inside.objects (get_by_text c.self.inside.names) (keys_of c.self.inside.extents) c.self.invariant c.args.number c.args.attr
    c.args.value)
