use Rattle.std.proofs.Common.{◌≡◌, take}
use Rattle.class_rules.specs.Shared.{joined}
use Rattle.class_rules.proofs.sharing.joined.Given as goal

abbrev pub invariant-parents : goal.invariant-parents
invariant-parents l = l.sharing ≡ joined l.all (take l.parent-index l.parents) l.fn.own
