use Rattle.std.proofs.Common.{◌≡◌, map, take}
use Rattle.use_syntax.proofs.table.flags_of_rules.Given as goal

abbrev pub invariant-rules : goal.invariant-rules
invariant-rules l = l.flags.items ≡ map (λ b. b.1) (take l.nests-index l.rules)
