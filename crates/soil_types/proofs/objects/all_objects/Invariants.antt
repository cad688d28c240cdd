use Rattle.std.proofs.Common.{◌≡◌, []}
use Rattle.std.specs.Vec.Iter.{into_iter_items}
use Rattle.ocl_shapes.specs.Combining.{each}
use Rattle.soil_types.specs.ObjectForms.{object_wanted}
use Rattle.soil_types.proofs.objects.all_objects.Given as goal

abbrev pub invariant-objects : goal.invariant-objects
invariant-objects l = record {
  same : each object_wanted [] l.fn.all ≡ each object_wanted l.done (into_iter_items l.placed-iterator);
}
