use Rattle.ocl_scope.proofs.Told.{declared_gives}
use Rattle.ocl_scope.proofs.laws.declared_types_are_the_models.Goals as goal

pub returns : goal.returns
returns c = declared_gives c.args.model.now c.args.env.now c.args.written.now
