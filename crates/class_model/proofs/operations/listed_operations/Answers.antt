use Rattle.std.proofs.Common.{sym, ◌∙◌, ◌&&◌, false, nat_eq}
use Rattle.std.specs.List.{position_from}
use Rattle.std.specs.Option.{option_map_or}
use Rattle.class_model.specs.Features.{declares}
use Rattle.class_model.specs.Indexes.{above}
use Rattle.class_model.proofs.Listed.{kept_more}
use Rattle.class_model.proofs.operations.listed_operations.Goals as goal

pub ops-preserved : goal.ops-preserved
ops-preserved c =
    c.in_ok-push_if.ensures
    ∙ rw (c.ops.invariant, c.is_listed-holds.ensures, c.in_ok-first.ensures)
    (sym (kept_more (λ p. above c.args.rows.now c.args.class p.1.class && option_map_or (nat_eq p.0)
    (position_from (declares (above c.args.rows.now c.args.class) p.1.name) 0 c.args.ops.now) false)
    c.args.ops.now c.ops.i _ c.ops-test.true c.index-ops-i.is))
