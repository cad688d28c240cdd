use Rattle.std.proofs.Common.{◌≡◌}
use Rattle.std.proofs.Common.{drop}
use Rattle.class_rules.specs.ClassRules.{broken_by}
use Rattle.class_decls.specs.Texts.{first_numbered}
use Rattle.class_rules.proofs.by_class.first_broken_among.Given as goal

abbrev pub invariant-classes : goal.invariant-classes
invariant-classes l = first_numbered (broken_by l.rule l.index) 0 l.classes ≡ first_numbered (broken_by l.rule l.index) l.i (drop l.i l.classes)
