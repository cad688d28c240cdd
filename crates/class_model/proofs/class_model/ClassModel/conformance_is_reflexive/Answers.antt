use Rattle.class_model.proofs.Conforming.{reflexive}
use Rattle.class_model.proofs.class_model.ClassModel.conformance_is_reflexive.Goals as goal

pub returns : goal.returns
returns c = reflexive c.args.self.now c.has_numbers_in_range.ensures.acyclic c.args.a.now
