use Rattle.std.proofs.Common.{◌≡◌, map, take, string_bytes}
use Rattle.std.specs.List.{join_with_byte}
use Rattle.class_builder.proofs.multiplicities.spec.Given as goal

abbrev pub invariant-parts : goal.invariant-parts
invariant-parts l = string_bytes l.spec ≡ join_with_byte 44 (map (λ p. p.text) (take l.i l.parts))
