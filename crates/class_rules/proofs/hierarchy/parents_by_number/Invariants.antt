use Rattle.std.proofs.Common.{◌≡◌, map, take}
use Rattle.std.proofs.Common.{None, get_or}
use Rattle.std.specs.List.{filter_map}
use Rattle.class_rules.specs.Numbering.{row_at}
use Rattle.class_rules.proofs.hierarchy.parents_by_number.Given as goal

abbrev pub invariant-order : goal.invariant-order
invariant-order l = l.parents.items ≡ map (λ i. filter_map (λ p. get_or l.numbers p None) (row_at l.places i)) (take l.place-index l.order)
