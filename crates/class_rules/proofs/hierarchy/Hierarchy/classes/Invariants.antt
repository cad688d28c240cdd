use Rattle.std.proofs.Common.{◌≡◌, map, take}
use Rattle.std.specs.List.{filter_map}
use Rattle.class_rules.specs.Ancestors.{class_numbered}
use Rattle.class_rules.proofs.hierarchy.Hierarchy.classes.Given as goal

abbrev pub invariant-numbers : goal.invariant-numbers
invariant-numbers l = map (λ c. c.now) l.found.items ≡ filter_map (class_numbered l.self) (take l.number-index l.numbers)
