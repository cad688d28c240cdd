use Rattle.std.proofs.Common.{sym, ◌∙◌}
use Rattle.class_decls.specs.Texts.{same_text}
use Rattle.class_model.proofs.Named.{place_more}
use Rattle.class_builder.proofs.type_names.class_numbers.Goals as goal

pub classes-preserved : goal.classes-preserved
classes-preserved c = λ t.
    c.in_ok-add_first.ensures t
    ∙ rw (c.classes.invariant t, c.as_str.ensures)
    (sym (place_more (λ d. same_text d.now.name.text t) c.args.classes.now c.classes.i _ c.classes-test.true c.index-classes-i.is))
