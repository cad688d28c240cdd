use Rattle.std.proofs.Common.{◌≡◌, ◌||◌, map, nat_eq}
use Rattle.std.specs.List.{list_any, range_with_len}
use Rattle.class_model.specs.Indexes.{above}
use Rattle.class_model.proofs.inheritance.row.Given as goal

abbrev pub invariant-classes : goal.invariant-classes
invariant-classes l = l.flags.items ≡ map (λ d. nat_eq d l.class || list_any (λ p. above l.rows p d) l.parents) (range_with_len 0 l.other)
