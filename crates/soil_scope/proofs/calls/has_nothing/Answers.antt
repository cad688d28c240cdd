use Rattle.ocl_scope.proofs.Absent.{no_operation}
use Rattle.soil_scope.proofs.calls.has_nothing.Goals as goal

pub returns : goal.returns
returns c = no_operation c.args.model.now c.args.class c.args.name.now c.requires c.has_numbers_in_range.ensures
