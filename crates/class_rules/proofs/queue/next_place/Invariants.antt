use Rattle.std.proofs.Common.{length}
use Rattle.class_rules.specs.Queue.{IsQueued}
use Rattle.class_rules.specs.Ready.{ready_before}
use Rattle.class_rules.proofs.queue.next_place.Given as goal

abbrev pub invariant-classes : goal.invariant-classes
invariant-classes l = IsQueued l.parents l.done l.passed.items l.waiting.items l.ready

abbrev pub decreases-classes : goal.decreases-classes
decreases-classes l = ready_before (length l.parents) l.ready
