use Rattle.std.proofs.Common.{◌≡◌, drop}
use Rattle.grammar_core.specs.Tables.{choices}
use Rattle.grammar_core.specs.Marks.{Grows, mark_all}
use Rattle.grammar_core.proofs.marks.mark_branches.Given as goal

abbrev pub invariant-branches : goal.invariant-branches
invariant-branches l = record {
  set : mark_all l.seen.items (choices (drop l.branch-index l.branches) l.other) ≡ mark_all l.fn.seen.items (choices l.branches l.other);
  grows : Grows l.fn.seen.items l.seen.items l.grew;
}
