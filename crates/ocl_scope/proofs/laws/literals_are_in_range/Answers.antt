use Rattle.ocl_scope.proofs.Told.{only_literal_gives}
use Rattle.ocl_scope.proofs.laws.literals_are_in_range.Goals as goal

pub returns : goal.returns
returns c = only_literal_gives c.args.model.now c.args.size c.args.name.now
