use Rattle.std.proofs.Common.{◌≡◌, map, take}
use Rattle.use_syntax.specs.declared.row.Symbol.TheVariants.{Production}
use Rattle.use_syntax.specs.Forms.{place_of}
use Rattle.use_syntax.proofs.table.places_of_rules.Given as goal

abbrev pub invariant-rules : goal.invariant-rules
invariant-rules l = l.places.items ≡ map (λ b. place_of (Production b.0)) (take l.production-index l.rules)
