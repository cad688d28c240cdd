use Rattle.std.proofs.Common.{◌≡◌, ◌++◌, filter, map, not, take}
use Rattle.std.specs.HashMap.{get_by_text}
use Rattle.class_builder.specs.Models.{attribute, type_by}
use Rattle.class_builder.proofs.features.add_derived.Given as goal

abbrev pub invariant-decls : goal.invariant-decls
invariant-decls l = l.attrs.items ≡ l.fn.attrs.items ++ map (attribute (type_by (λ text. get_by_text l.names text)) l.class)
    (filter (λ a. a.is_derived) (take l.decl-index l.decls))
