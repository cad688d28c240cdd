use Rattle.std.proofs.Common.{get_or, refl, slice_get}
use Rattle.class_decls.proofs.Numbered.{filter_map_more}
use Rattle.class_rules.proofs.PlacedClasses.{default_alike}
use Rattle.class_builder.proofs.class_table.classes_at.Goals as goal

pub places-preserved : goal.places-preserved
places-preserved c =
    rw (
      c.in_ok-add_class.ensures,
      c.get.ensures.value,
      c.places.invariant,
      filter_map_more (slice_get c.args.classes.now) c.args.places.now c.places.place-index (get_or c.args.places.now c.places.place-index 0) c.places-test.true
          (default_alike c.args.places.now c.places.place-index 0 (get_or c.args.places.now c.places.place-index 0) c.places-test.true),
    ) refl
