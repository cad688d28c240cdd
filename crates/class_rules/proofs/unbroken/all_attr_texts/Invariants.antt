use Rattle.std.proofs.Common.{◌≡◌, take}
use Rattle.class_rules.specs.Features.{attrs_of}
use Rattle.class_rules.proofs.unbroken.all_attr_texts.Given as goal

abbrev pub invariant-classes : goal.invariant-classes
invariant-classes l = l.texts.items ≡ attrs_of (take l.class-index l.classes)
