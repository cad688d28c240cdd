use Rattle.ocl_scope.proofs.Told.{bare_gives}
use Rattle.ocl_scope.proofs.laws.names_are_in_range.Goals as goal

pub returns : goal.returns
returns c = bare_gives c.args.model.now c.args.env.now c.has_numbers_in_range.ensures c.requires c.args.is_post c.args.name.now c.args.is_before
