use Rattle.std.proofs.Common.{◌≡◌, drop, map}
use Rattle.object_state.specs.declared.cell.Cell.TheVariants.{Extent}
use Rattle.object_state.specs.Touched.{with_cells}
use Rattle.object_state.proofs.touch.add_extents.Given as goal

abbrev pub invariant-classes : goal.invariant-classes
invariant-classes l = with_cells l.out (map Extent (drop l.class-index l.classes)) ≡ with_cells l.initial.out (map Extent l.classes)
