use Rattle.std.proofs.Common.{◌≡◌, ◌++◌, drop}
use Rattle.use_orders.proofs.copies.append_copies.Given as goal

abbrev pub invariant-copy : goal.invariant-copy
invariant-copy g l = l.out.items ++ drop l.i l.items ≡ l.initial.out.items ++ drop l.from l.items
