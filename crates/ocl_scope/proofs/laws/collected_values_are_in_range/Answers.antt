use Rattle.ocl_scope.proofs.Nested.{collected_there}
use Rattle.ocl_scope.proofs.laws.collected_values_are_in_range.Goals as goal

pub returns : goal.returns
returns c =
    collected_there c.args.model.now c.args.source.now.of_type c.args.source.now.expr c.args.size c.args.read.now c.requires.source.expr c.requires.read
