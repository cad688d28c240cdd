use Rattle.std.proofs.Common.{sym, ap, ◌∙◌}
use Rattle.std.specs.List.{flat_map}
use Rattle.std.proofs.lemmas.List.Folds.{flat_map-map}
use Rattle.class_rules.specs.Features.{roles_of_class}
use Rattle.class_decls.proofs.Numbered.{all_taken}
use Rattle.class_rules.proofs.features.role_texts.Goals as goal

pub returns : goal.returns
returns c =
    c.classes.invariant ∙ ap (flat_map (λ d. roles_of_class c.args.index.now.assocs d.now.name.text)) (all_taken c.args.classes.now c.classes.class-index
    c.classes-test.false)
    ∙ sym (flat_map-map (λ d. roles_of_class c.args.index.now.assocs d.name.text) (λ d. d.now) c.args.classes.now)
