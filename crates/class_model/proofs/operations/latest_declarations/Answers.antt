use Rattle.std.proofs.Common.{sym, ap, ◌∙◌, ◌&&◌, take}
use Rattle.class_decls.specs.Texts.{same_text}
use Rattle.class_model.specs.Features.{declares, numbers_of}
use Rattle.class_model.specs.Indexes.{above, latest}
use Rattle.class_model.proofs.Chosen.{latest_more}
use Rattle.class_model.proofs.Listed.{numbers_more}
use Rattle.class_model.proofs.operations.latest_declarations.Goals as goal

pub ops-preserved : goal.ops-preserved
ops-preserved c = λ t.
    c.in_ok-add_later_if.ensures t
    ∙ rw (c.ops.invariant t, c.as_str.ensures, c.is_above-holds.ensures)
    (latest_more c.args.ops.now (numbers_of (declares (above c.args.rows.now c.args.class) t) (take c.ops.i c.args.ops.now)) _ c.ops.i)
    ∙ ap (latest c.args.ops.now) (sym (numbers_more (declares
    (above c.args.rows.now c.args.class) t) c.args.ops.now c.ops.i _ c.ops-test.true c.index-ops-i.is))
