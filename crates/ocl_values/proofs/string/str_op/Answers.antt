use Rattle.ocl_values.specs.Strings.{of_text}
use Rattle.ocl_values.proofs.WellMade.{well_of_text, well_result}
use Rattle.ocl_values.proofs.string.str_op.Goals as goal

pub returns-in-Str-clause-well_made : goal.returns-in-Str-clause-well_made
returns-in-Str-clause-well_made c =
    well_result c.of_text.result (of_text c.args.op c.as_str.result.now c.args.args.now) (well_of_text c.args.op c.as_str.result.now c.args.args.now)
    c.of_text.ensures
