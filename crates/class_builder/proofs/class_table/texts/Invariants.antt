use Rattle.std.proofs.Common.{◌≡◌, map, take}
use Rattle.class_builder.proofs.class_table.texts.Given as goal

abbrev pub invariant-names : goal.invariant-names
invariant-names l = l.texts.items ≡ map (λ n. n.text) (take l.name-index l.names)
