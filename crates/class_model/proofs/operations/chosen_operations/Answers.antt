use Rattle.std.proofs.Common.{ap, ◌∙◌}
use Rattle.class_model.specs.Features.{declares, numbers_of}
use Rattle.class_model.specs.Indexes.{above}
use Rattle.class_model.proofs.Chosen.{chosen_is, overriding}
use Rattle.class_model.proofs.operations.chosen_operations.Goals as goal

pub returns : goal.returns
returns c = λ t.
    let os = numbers_of (declares (above c.args.rows.now c.args.class) t) c.args.ops.now in
    c.keep_overriding.ensures t
    ∙ ap (overriding (above c.args.rows.now) c.args.ops.now os) (c.in_ok-map.ensures t)
    ∙ chosen_is (above c.args.rows.now) c.requires.downward c.args.ops.now os
