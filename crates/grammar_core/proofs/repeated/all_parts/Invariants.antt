use Rattle.std.proofs.Common.{◌≡◌, Some, map, take}
use Rattle.grammar_core.specs.Repetitions.{parts_in}
use Rattle.grammar_core.proofs.repeated.all_parts.Given as goal

abbrev pub invariant-prods : goal.invariant-prods
invariant-prods l = l.all.items ≡ map (λ x. parts_in l.table (Some x)) (take l.x-index l.prods)
