use Rattle.std.proofs.Common.{refl, ◌∙◌}
use Rattle.std.proofs.lemmas.Grind.{fold-append}
use Rattle.std.proofs.lemmas.List.{take_more}
use Rattle.class_rules.proofs.ancestors.add_all.Goals as goal

pub classes-preserved : goal.classes-preserved
classes-preserved c =
    c.in_ok-insert.ensures.keys ∙ rw (c.classes.invariant, take_more c.args.classes.now c.classes.class-index 0 c.classes-test.true, fold-append) refl
