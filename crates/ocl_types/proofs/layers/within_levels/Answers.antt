use Rattle.ocl_types.proofs.Levels.{shallow_told}
use Rattle.ocl_types.proofs.layers.within_levels.Goals as goal

pub returns-clause-shallow : goal.returns-clause-shallow
returns-clause-shallow c = shallow_told c.args.place c.args.typed c.level_rule.result c.level_rule.ensures
