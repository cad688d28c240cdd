use Rattle.std.proofs.Common.{◌≡◌, map, take}
use Rattle.std.specs.List.{flat_map}
use Rattle.class_rules.proofs.features.attr_texts.Given as goal

abbrev pub invariant-classes : goal.invariant-classes
invariant-classes l = l.texts.items ≡ flat_map (λ c. map (λ a. a.name.text) c.now.attrs) (take l.class-index l.classes)
