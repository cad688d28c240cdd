use Rattle.std.proofs.Common.{◌≡◌, take}
use Rattle.class_rules.specs.Numbering.{place_in}
use Rattle.std.specs.List.{filter_map}
use Rattle.class_rules.proofs.places.parents_in.Given as goal

abbrev pub invariant-parents : goal.invariant-parents
invariant-parents l = l.found.items ≡ filter_map (λ p. place_in l.places p.text) (take l.parent-index l.parents)
