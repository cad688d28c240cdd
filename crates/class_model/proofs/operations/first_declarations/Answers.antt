use Rattle.std.proofs.Common.{sym, ◌∙◌}
use Rattle.class_model.specs.Features.{declares}
use Rattle.class_model.specs.Indexes.{above}
use Rattle.class_model.proofs.Named.{place_more}
use Rattle.class_model.proofs.operations.first_declarations.Goals as goal

pub ops-preserved : goal.ops-preserved
ops-preserved c = λ t.
    c.in_ok-add_first_if.ensures t
    ∙ rw (c.ops.invariant t, c.as_str.ensures, c.is_above-holds.ensures)
    (sym (place_more (declares (above c.args.rows.now c.args.class) t) c.args.ops.now c.ops.i _ c.ops-test.true c.index-ops-i.is))
