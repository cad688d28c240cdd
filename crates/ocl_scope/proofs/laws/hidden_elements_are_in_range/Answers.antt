use Rattle.ocl_scope.proofs.Nested.{hidden_there}
use Rattle.ocl_scope.proofs.laws.hidden_elements_are_in_range.Goals as goal

pub returns : goal.returns
returns c = hidden_there c.args.model.now c.args.of_type.now c.args.size c.requires.of_type c.requires.nested
