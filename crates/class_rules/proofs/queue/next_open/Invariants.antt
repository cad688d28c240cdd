use Rattle.std.proofs.Common.{◌≡◌, take, true}
use Rattle.std.specs.List.{list_all}
use Rattle.class_rules.specs.Queue.{has_number}
use Rattle.class_rules.proofs.queue.next_open.Given as goal

abbrev pub invariant-parents : goal.invariant-parents
invariant-parents l = list_all (has_number l.done) (take l.i l.row) ≡ true
