use Rattle.std.proofs.Common.{◌≡◌, map, take}
use Rattle.class_rules.specs.Agreeing.{all_ops}
use Rattle.class_rules.proofs.agreeing.all_ops.Given as goal

abbrev pub invariant-classes : goal.invariant-classes
invariant-classes l = map (λ op. op.now) l.found.items ≡ all_ops (take l.class-index l.classes)
