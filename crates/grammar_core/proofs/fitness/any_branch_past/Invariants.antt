use Rattle.std.proofs.Common.{◌≡◌, drop}
use Rattle.grammar_core.specs.Checks.{any_past}
use Rattle.grammar_core.specs.Tables.{choices}
use Rattle.grammar_core.proofs.fitness.any_branch_past.Given as goal

abbrev pub invariant-branches : goal.invariant-branches
invariant-branches l = any_past l.count (choices (drop l.branch-index l.branches) l.other) ≡ any_past l.count (choices l.branches l.other)
