use Rattle.std.proofs.Common.{◌≡◌, take}
use Rattle.use_orders.specs.Canon.{selected}
use Rattle.use_orders.proofs.selection.copy_selected.Given as goal

abbrev pub invariant-pick : goal.invariant-pick
invariant-pick g l = l.out.items ≡ selected (take l.i l.items) (take l.i l.flags)
