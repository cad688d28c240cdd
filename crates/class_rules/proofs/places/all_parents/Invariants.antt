use Rattle.std.proofs.Common.{◌≡◌, map, take}
use Rattle.class_rules.specs.Numbering.{place_in}
use Rattle.std.specs.List.{filter_map}
use Rattle.class_rules.proofs.places.all_parents.Given as goal

abbrev pub invariant-classes : goal.invariant-classes
invariant-classes l = l.rows.items ≡ map (λ c. filter_map (λ p. place_in l.places p.text) c.parents) (take l.class-index l.classes)
