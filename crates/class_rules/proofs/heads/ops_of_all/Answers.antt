use Rattle.std.proofs.Common.{take}
use Rattle.class_decls.proofs.Numbered.{take-more}
use Rattle.class_rules.proofs.ByName.{ops_more}
use Rattle.class_rules.proofs.heads.ops_of_all.Goals as goal

pub classes-preserved : goal.classes-preserved
classes-preserved c =
    rw (c.in_ok-push.ensures.items, take-more c.args.classes.now _ _ c.classes-test.true c.class-item.is)
    (ops_more c.classes.all.items (take c.classes.class-index c.args.classes.now) c.in_ok-ops_of.field-0 c.class-item.result c.classes.invariant
    c.in_ok-ops_of.ensures)
