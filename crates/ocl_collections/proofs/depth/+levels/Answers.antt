use Rattle.std.proofs.Common.{arith, ap, ◌∙◌, ◌≡◌, ◌+◌}
use Rattle.ocl_values.specs.Shape.{levels_of, most_levels}
use Rattle.ocl_values.proofs.Rows.{levels_of-Coll}
use Rattle.ocl_collections.proofs.depth.+levels.Goals as goal

pub levels-returns-in-Coll : goal.levels-returns-in-Coll
levels-returns-in-Coll t c =
    let whole : levels_of c.args.v.now ≡ 1 + most_levels c.in-Coll.items = ap levels_of c.in-Coll.is ∙ levels_of-Coll c.in-Coll.field-0 c.in-Coll.items in
    let all : most_levels c.as_slice.result.now ≡ most_levels c.in-Coll.items = ap most_levels c.as_slice.ensures in
    omega arith
