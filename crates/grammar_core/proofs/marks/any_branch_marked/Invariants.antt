use Rattle.std.proofs.Common.{◌≡◌, drop}
use Rattle.grammar_core.specs.Empty.{any_marked}
use Rattle.grammar_core.specs.Tables.{choices}
use Rattle.grammar_core.proofs.marks.any_branch_marked.Given as goal

abbrev pub invariant-branches : goal.invariant-branches
invariant-branches l = any_marked l.seen (choices (drop l.branch-index l.branches) l.other) ≡ any_marked l.seen (choices l.branches l.other)
