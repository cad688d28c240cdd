use Rattle.std.proofs.Common.{◌≡◌, ◌++◌, ◌≤◌, reverse, drop, length}
use Rattle.grammar_core.specs.Tasks.{reads}
use Rattle.grammar_core.proofs.machine.put_all.Given as goal

abbrev pub invariant-parts : goal.invariant-parts
invariant-parts l = record {
  put : l.stack.items ≡ l.fn.stack.items ++ reverse (reads l.level (drop l.i l.ps));
  few : l.i ≤ length l.ps;
}

abbrev pub decreases-parts : goal.decreases-parts
decreases-parts l = l.i
