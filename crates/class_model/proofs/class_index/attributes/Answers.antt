use Rattle.std.proofs.Common.{sym, ◌∙◌}
use Rattle.class_model.specs.Indexes.{above}
use Rattle.class_model.proofs.Listed.{numbers_more}
use Rattle.class_model.proofs.class_index.attributes.Goals as goal

pub attrs-preserved : goal.attrs-preserved
attrs-preserved c =
    c.in_ok-push_if.ensures
    ∙ rw (c.attrs.invariant, c.is_above.ensures)
    (sym (numbers_more (λ a. above c.args.rows.now c.args.class a.class) c.args.attrs.now c.attrs.i _ c.attrs-test.true c.index-attrs-i.is))
