use Rattle.ocl_laws.proofs.InRange.{typed_ranges}
use Rattle.ocl_laws.proofs.laws.types_are_in_range.Goals as goal

pub returns : goal.returns
returns c =
    typed_ranges c.args.model.now c.has_numbers_in_range.ensures c.args.is_post c.args.env.now c.requires c.args.written.now
