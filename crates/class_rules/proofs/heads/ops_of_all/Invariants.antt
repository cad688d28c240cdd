use Rattle.std.proofs.Common.{take}
use Rattle.class_rules.specs.ClassOps.{AreOpsOf}
use Rattle.class_rules.proofs.heads.ops_of_all.Given as goal

abbrev pub invariant-classes : goal.invariant-classes
invariant-classes l = AreOpsOf l.all.items (take l.class-index l.classes)
