use Rattle.std.proofs.Common.{◌≡◌, map, slice_get, take}
use Rattle.std.specs.List.{filter_map}
use Rattle.class_builder.proofs.class_table.classes_at.Given as goal

abbrev pub invariant-places : goal.invariant-places
invariant-places l = map (λ c. c.now) l.found.items ≡ filter_map (slice_get l.classes) (take l.place-index l.places)
