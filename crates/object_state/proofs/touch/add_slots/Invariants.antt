use Rattle.std.proofs.Common.{◌≡◌, drop, map}
use Rattle.object_state.specs.declared.cell.Cell.TheVariants.{Slot}
use Rattle.object_state.specs.Touched.{with_cells}
use Rattle.object_state.proofs.touch.add_slots.Given as goal

abbrev pub invariant-attrs : goal.invariant-attrs
invariant-attrs l = with_cells l.out (map (Slot l.object) (drop l.attr-index l.attrs)) ≡ with_cells l.initial.out (map (Slot l.object) l.attrs)
