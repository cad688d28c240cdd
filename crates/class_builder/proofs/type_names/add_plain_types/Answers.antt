use Rattle.std.proofs.Common.{ap, ◌∙◌}
use Rattle.std.specs.HashMap.{get_by_text}
use Rattle.class_builder.proofs.Lookups.{plain_is}
use Rattle.class_builder.proofs.type_names.add_plain_types.Goals as goal

pub returns : goal.returns
returns c = λ t.
    c.in_ok-add_first-5.ensures t
    ∙ rw (c.in_ok-add_first-4.ensures t, c.in_ok-add_first-3.ensures t, c.in_ok-add_first-2.ensures t, c.in_ok-add_first.ensures t)
    (plain_is (get_by_text c.args.names.now t) t)
