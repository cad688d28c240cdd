use Rattle.std.proofs.Common.{◌≡◌, drop}
use Rattle.grammar_core.specs.Derives.{branch_of, kinds}
use Rattle.grammar_core.proofs.lookup.branch_of.Given as goal

abbrev pub invariant-branches : goal.invariant-branches
invariant-branches l = branch_of (kinds l.tokens) l.at (drop l.branch-index l.branches) l.other ≡ branch_of (kinds l.tokens) l.at l.branches l.other
