use Rattle.class_model.proofs.Joining.{upper}
use Rattle.class_model.proofs.class_model.ClassModel.types_conform_to_their_join.Goals as goal

pub returns-clause-first : goal.returns-clause-first
returns-clause-first c = (upper c.args.self.now c.has_numbers_in_range.ensures.acyclic c.args.a.now c.args.b.now).0

pub returns-clause-second : goal.returns-clause-second
returns-clause-second c = (upper c.args.self.now c.has_numbers_in_range.ensures.acyclic c.args.a.now c.args.b.now).1
