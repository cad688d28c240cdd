use Rattle.std.proofs.Common.{◌≡◌, length}
use Rattle.class_rules.proofs.queue.no_lists.Given as goal

abbrev pub invariant-lists : goal.invariant-lists
invariant-lists l = length l.lists.items ≡ l._place
