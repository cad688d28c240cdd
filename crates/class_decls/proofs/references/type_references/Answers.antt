use Rattle.std.proofs.Common.{sym, ap, ◌∙◌, refl}
use Rattle.std.specs.List.{flat_map}
use Rattle.std.proofs.lemmas.List.Folds.{flat_map-map}
use Rattle.class_decls.specs.References.{head_types}
use Rattle.class_decls.proofs.references.type_references.Goals as goal

pub returns : goal.returns
returns c =
    let heads = sym (flat_map-map head_types (λ h. h.now) c.in_ok-heads.heads.items) ∙ ap (flat_map head_types) c.in_ok-heads.ensures in
    rw (c.in_ok-add_types_of_heads.ensures, c.as_slice-2.ensures.value, c.in_ok-add_class_types.ensures, c.new-found.ensures.items, c.as_slice.ensures, heads)
    refl
