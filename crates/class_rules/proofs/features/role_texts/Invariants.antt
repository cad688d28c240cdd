use Rattle.std.proofs.Common.{◌≡◌, take}
use Rattle.std.specs.List.{flat_map}
use Rattle.class_rules.specs.Features.{roles_of_class}
use Rattle.class_rules.proofs.features.role_texts.Given as goal

abbrev pub invariant-classes : goal.invariant-classes
invariant-classes l = l.texts.items ≡ flat_map (λ c. roles_of_class l.index.assocs c.now.name.text) (take l.class-index l.classes)
