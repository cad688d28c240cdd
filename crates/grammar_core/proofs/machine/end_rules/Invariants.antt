use Rattle.std.proofs.Common.{length}
use Rattle.grammar_core.specs.Arena.{read_trees}
use Rattle.grammar_core.specs.Derives.{kinds}
use Rattle.grammar_core.specs.Tasks.{Ended}
use Rattle.grammar_core.proofs.machine.end_rules.Given as goal

abbrev pub invariant-rules : goal.invariant-rules
invariant-rules l =
    Ended l.g (kinds l.tokens) l.fn.work.stack.items l.work.stack.items l.at (read_trees l.fn.work.built) (read_trees l.work.built)

abbrev pub decreases-rules : goal.decreases-rules
decreases-rules l = length l.work.stack.items
