use Rattle.std.proofs.Common.{ap, ◌∙◌, map}
use Rattle.std.specs.List.{enumerate_from}
use Rattle.std.specs.Map.{lookup}
use Rattle.std.specs.Option.{option_or}
use Rattle.class_decls.proofs.Numbered.{all_taken}
use Rattle.std.specs.HashMap.{get_by_text}
use Rattle.class_decls.specs.Texts.{same_text}
use Rattle.class_model.specs.declared.types.OclType.TheVariants as T
use Rattle.class_builder.proofs.Lookups.{named_more}
use Rattle.class_builder.proofs.Steps.{each_map}
use Rattle.class_builder.proofs.type_names.add_classes.Goals as goal

pub returns : goal.returns
returns c = λ t.
    let all = all_taken c.args.classes.now c.classes.i c.classes-test.false in
    c.classes.invariant t
    ∙ ap (λ l. option_or (get_by_text c.args.names.now t) (lookup (λ name. same_text name t) l))
    (ap (λ l. map (λ p. (p.1.now.name.text, T.Class p.0)) (enumerate_from 0 l)) all ∙ each_map (λ p. (p.1.name.text, T.Class p.0))
    (λ d. d.now) 0 c.args.classes.now)

pub classes-preserved : goal.classes-preserved
classes-preserved c = λ t.
    c.in_ok-add_first.ensures t
    ∙ rw (c.classes.invariant t, c.as_str.ensures)
    (named_more (λ name. same_text name t) (get_by_text c.args.names.now t)
    (λ p. (p.1.now.name.text, T.Class p.0)) c.args.classes.now c.classes.i _ c.classes-test.true c.index-classes-i.is)
