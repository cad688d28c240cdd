use Rattle.std.proofs.Common.{ap, ◌∙◌}
use Rattle.std.specs.HashMap.{get_by_text}
use Rattle.class_decls.specs.Texts.{same_text}
use Rattle.class_model.specs.declared.types.OclType.TheVariants as T
use Rattle.class_builder.proofs.Lookups.{named_more}
use Rattle.class_builder.proofs.type_names.add_enums.Goals as goal

pub enums-preserved : goal.enums-preserved
enums-preserved c = λ t.
    c.in_ok-add_first.ensures t
    ∙ rw (c.enums.invariant t, c.as_str.ensures)
    (named_more (λ name. same_text name t) (get_by_text c.args.names.now t)
    (λ p. (p.1.name.text, T.Enum p.0)) c.args.enums.now c.enums.i _ c.enums-test.true c.index-enums-i.is)
