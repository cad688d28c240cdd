use Rattle.std.proofs.Common.{◌≡◌, drop}
use Rattle.grammar_core.specs.Checks.{any_past}
use Rattle.grammar_core.proofs.fitness.any_past.Given as goal

abbrev pub invariant-parts : goal.invariant-parts
invariant-parts l = any_past l.count (drop l.q-index l.ps) ≡ any_past l.count l.ps
