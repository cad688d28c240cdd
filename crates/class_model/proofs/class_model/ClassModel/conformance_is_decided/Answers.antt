use Rattle.class_model.proofs.Conforming.{tells, told}
use Rattle.class_model.proofs.class_model.ClassModel.conformance_is_decided.Goals as goal

pub returns : goal.returns
returns c =
    let down = c.has_numbers_in_range.ensures.acyclic in
    (told c.args.self.now down c.args.a.now c.args.b.now, tells c.args.self.now down c.args.a.now c.args.b.now)
