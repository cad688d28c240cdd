use Rattle.std.proofs.Common.{ap, ◌∙◌, ◌++◌, map}
use Rattle.std.specs.Map.{lookup}
use Rattle.std.specs.Option.{option_or}
use Rattle.class_decls.specs.Texts.{same_text}
use Rattle.class_builder.specs.Models.{class_names, enum_names, plain_names}
use Rattle.class_builder.proofs.Lookups.{empty_none, names_joined}
use Rattle.class_builder.proofs.type_names.type_names.Goals as goal

pub returns : goal.returns
returns c = λ t.
    let e = enum_names c.args.enums.now in
    let k = class_names (map (λ d. d.now) c.args.classes.now) in
    c.in_ok-add_classes.ensures t
    ∙ ap (λ o. option_or o (lookup (λ name. same_text name t) k))
    (c.in_ok-add_enums.ensures t
    ∙ ap (λ o. option_or o (lookup (λ name. same_text name t) e))
    (c.in_ok-add_plain_types.ensures t ∙ ap (λ o. option_or o (lookup (λ name. same_text name t) plain_names))
    (empty_none c.new-names.result c.new-names.ensures.empty t)))
    ∙ names_joined (λ name. same_text name t) plain_names e k
