use Rattle.std.proofs.Common.{◌∙◌, sym, ap}
use Rattle.class_model.specs.Inheritance.{ancestors, is_a}
use Rattle.class_model.proofs.Greatest.{all_filter}
use Rattle.class_model.proofs.class_model.ClassModel.is_lowest.Goals as goal

pub returns : goal.returns
returns c =
    c.covers_all.ensures
    ∙ rw c.ancestors.ensures (sym (all_filter (is_a c.args.self.now c.args.class) (is_a c.args.self.now c.args.b) (ancestors c.args.self.now c.args.a)))
