use Rattle.class_rules.specs.Queue.{IsQueued}
use Rattle.class_rules.proofs.Flags.{IsNumberedSoFar}
use Rattle.class_rules.proofs.numbering.numbering.Given as goal

abbrev pub invariant-numbers : goal.invariant-numbers
invariant-numbers l = IsNumberedSoFar l.parents l.done.items l.order.items l._number
    × IsQueued l.parents l.done.items l.passed.items l.waiting.items l.ready
