use Rattle.std.proofs.Common.{None, map, sym, ap, ap₂, ◌∙◌}
use Rattle.class_decls.specs.Entries.{first_of}
use Rattle.class_decls.specs.References.{class_references, is_class, is_type, places_outside, type_references}
use Rattle.class_decls.specs.Texts.{has_text}
use Rattle.class_decls.proofs.Outside.{first_of-append, outside_alike}
use Rattle.class_decls.proofs.references.unknown_type.Goals as goal

pub returns : goal.returns
returns c =
    let ds = c.args.decls.now in
    let types =
    outside_alike (has_text c.in_ok-types.types) (is_type ds) c.in_ok-types.ensures (map (λ n. n.now) c.as_slice.result.now)
    ∙ ap (places_outside (is_type ds)) (ap (map (λ n. n.now)) c.as_slice.ensures.value ∙ c.in_ok-of_types.ensures) in
    let classes =
    outside_alike (has_text c.in_ok-classes.classes) (is_class ds) c.in_ok-classes.ensures (map (λ n. n.now) c.as_slice-2.result.now)
    ∙ ap (places_outside (is_class ds)) (ap (map (λ n. n.now)) c.as_slice-2.ensures.value ∙ c.in_ok-of_classes.ensures) in
    c.first_outside.ensures
    ∙ ap₂ first_of (c.first_outside-first.ensures ∙ ap (first_of None) types) classes
    ∙ sym (first_of-append None (places_outside (is_class ds) (class_references ds)) (places_outside (is_type ds) (type_references ds)))
