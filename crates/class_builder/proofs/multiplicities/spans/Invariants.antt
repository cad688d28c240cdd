use Rattle.std.proofs.Common.{◌≡◌, map, take}
use Rattle.class_builder.specs.Models.{span}
use Rattle.class_builder.proofs.multiplicities.spans.Given as goal

abbrev pub invariant-parts : goal.invariant-parts
invariant-parts l = l.spans.items ≡ map span (take l.part-index l.parts)
