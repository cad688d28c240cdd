use Rattle.std.proofs.Common.{arith, ap, ◌∙◌, ◌≡◌, ◌+◌}
use Rattle.ocl_values.specs.Shape.{size_of, sizes_of}
use Rattle.ocl_values.proofs.Rows.{size_of-Coll}
use Rattle.ocl_values.proofs.shape.+size.Goals as goal

pub size-returns-in-Coll : goal.size-returns-in-Coll
size-returns-in-Coll t c =
    let whole : size_of c.args.v.now ≡ 1 + sizes_of c.in-Coll.items = ap size_of c.in-Coll.is ∙ size_of-Coll c.in-Coll.field-0 c.in-Coll.items in
    let all : sizes_of c.as_slice.result.now ≡ sizes_of c.in-Coll.items = ap sizes_of c.as_slice.ensures in
    omega arith
