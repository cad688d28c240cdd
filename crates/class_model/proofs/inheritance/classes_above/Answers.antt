use Rattle.std.proofs.Common.{sym, ◌∙◌}
use Rattle.class_model.specs.Indexes.{above}
use Rattle.class_model.proofs.Listed.{range_filter}
use Rattle.class_model.proofs.inheritance.classes_above.Goals as goal

pub classes-preserved : goal.classes-preserved
classes-preserved c =
    c.in_ok-push_if.ensures ∙ rw (c.classes.invariant, c.is_above.ensures) (sym (range_filter (above c.args.rows.now c.args.class) c.classes.other))
