use Rattle.class_model.proofs.Joining.{least}
use Rattle.class_model.proofs.class_model.ClassModel.joins_are_least.Goals as goal

pub returns : goal.returns
returns c = least c.args.self.now c.has_numbers_in_range.ensures.acyclic c.args.a.now c.args.b.now c.args.least.now c.requires
