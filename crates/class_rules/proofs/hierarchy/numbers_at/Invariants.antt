use Rattle.std.proofs.Common.{◌≡◌, take}
use Rattle.std.proofs.Common.{None, get_or}
use Rattle.std.specs.List.{filter_map}
use Rattle.class_rules.proofs.hierarchy.numbers_at.Given as goal

abbrev pub invariant-places : goal.invariant-places
invariant-places l = l.found.items ≡ filter_map (λ p. get_or l.numbers p None) (take l.place-index l.places)
