use Rattle.std.proofs.Common.{not, ◌++◌, sym, ap, ◌∙◌}
use Rattle.std.specs.HashMap.{get_by_text}
use Rattle.class_decls.proofs.Joined.{joined2}
use Rattle.class_builder.specs.Models.{attribute, type_by}
use Rattle.class_builder.proofs.Steps.{kept_more}
use Rattle.class_builder.proofs.features.add_derived.Goals as goal

pub decls-preserved : goal.decls-preserved
decls-preserved c =
    joined2 _ _ _ _ _ c.decls.invariant c.in_ok-add_attribute_if.ensures
    ∙ ap (λ l. c.args.attrs.now.items ++ l)
    (sym (kept_more (attribute (type_by (λ text. get_by_text c.args.names.now text)) c.args.class)
    (λ a. a.is_derived) c.args.decls.now _ _ c.decls-test.true c.decl-item.is))
