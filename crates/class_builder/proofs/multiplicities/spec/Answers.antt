use Rattle.std.proofs.Common.{◌≡◌, ◌++◌, ◌∷◌, [], cond, nat_lt, map, take, string_bytes, ap, ◌∙◌}
use Rattle.std.specs.List.{join_with_byte}
use Rattle.class_builder.proofs.Steps.{texts_more}
use Rattle.class_builder.proofs.multiplicities.spec.Goals as goal

pub parts-preserved : goal.parts-preserved
parts-preserved c =
    let so_far : string_bytes c.parts.spec ≡ join_with_byte 44 (map (λ p. p.text) (take c.parts.i c.args.parts.now)) = c.parts.invariant in
    c.in_ok-push_str.ensures.bytes
    ∙ rw (c.in_ok-add_comma_if.ensures, c.as_str.ensures, so_far)
    (texts_more (λ p. p.text) 44 c.args.parts.now c.parts.i _ c.parts-test.true c.index-parts-i.is)
