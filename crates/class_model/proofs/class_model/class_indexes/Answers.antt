use Rattle.std.proofs.Common.{◌≡◌, ◌≤◌, ◌∙◌, length, arith}
use Rattle.class_model.specs.Indexes.{IsIndexOf}
use Rattle.class_model.proofs.Listed.{each_more, size_more}
use Rattle.class_model.proofs.class_model.class_indexes.Goals as goal

pub classes-preserved : goal.classes-preserved
classes-preserved c =
    rw c.in_ok-push.ensures.items (
      size_more c.classes.indexes.items c.classes.class _ c.classes.invariant.0,
      each_more (λ i t. IsIndexOf c.args.model.now i t) c.classes.indexes.items c.classes.class _ c.classes.invariant.0 c.classes.invariant.1
          c.in_ok-class_index.ensures,
    )

pub returns : goal.returns
returns c =
    let e : c.classes.class ≡ length c.args.model.now.classes = omega arith in
    (c.classes.invariant.0 ∙ e, λ i d h. c.classes.invariant.1 i d (omega arith))
