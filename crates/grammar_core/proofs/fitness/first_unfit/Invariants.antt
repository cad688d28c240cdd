use Rattle.std.proofs.Common.{ℕ, ◌<◌}
use Rattle.grammar_core.specs.Unfit.{Unfit}
use Rattle.grammar_core.proofs.fitness.first_unfit.Given as goal

abbrev pub invariant-prods : goal.invariant-prods
invariant-prods l = (q : ℕ) → q < l.p → Unfit l.g q → ⊥
