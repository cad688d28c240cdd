use Rattle.class_model.proofs.Conforming.{transitive}
use Rattle.class_model.proofs.class_model.ClassModel.conformance_is_transitive.Goals as goal

pub returns : goal.returns
returns c = transitive c.args.self.now c.has_numbers_in_range.ensures.acyclic c.args.a.now c.args.b.now c.requires.first c.args.c.now c.requires.second
