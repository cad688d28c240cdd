use Rattle.std.proofs.Common.{◌≡◌, map, take}
use Rattle.std.specs.List.{flat_map}
use Rattle.class_rules.proofs.features.op_texts.Given as goal

abbrev pub invariant-classes : goal.invariant-classes
invariant-classes l = l.texts.items ≡ flat_map (λ c. map (λ op. op.name.text) c.now.ops) (take l.class-index l.classes)
