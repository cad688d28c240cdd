use Rattle.std.proofs.Common.{◌≡◌, ◌++◌, drop}
use Rattle.object_state.proofs.plain_looks.copies_of.Given as goal

abbrev pub invariant-variables : goal.invariant-variables
invariant-variables l = l.copies ++ drop l.entry-index l.variables ≡ l.variables
