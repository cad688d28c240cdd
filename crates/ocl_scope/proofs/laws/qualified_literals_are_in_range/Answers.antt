use Rattle.ocl_scope.proofs.Told.{qualified_gives}
use Rattle.ocl_scope.proofs.laws.qualified_literals_are_in_range.Goals as goal

pub returns : goal.returns
returns c = qualified_gives c.args.model.now c.args.size c.args.env.now c.args.name.now c.args.literal.now c.args.is_before c.args.is_called
