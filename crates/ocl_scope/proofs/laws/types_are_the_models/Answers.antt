use Rattle.ocl_scope.proofs.Told.{type_gives}
use Rattle.ocl_scope.proofs.laws.types_are_the_models.Goals as goal

pub returns : goal.returns
returns c = type_gives c.args.model.now c.args.env.now c.args.name.now
