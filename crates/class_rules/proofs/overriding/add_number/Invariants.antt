use Rattle.std.proofs.Common.{◌≡◌, ◌++◌, ℕ, List, take}
use Rattle.class_rules.specs.Declaring.{times_declared}
use Rattle.class_rules.specs.Groups.{listed}
use Rattle.class_rules.proofs.overriding.add_number.Given as goal

abbrev pub invariant-ops : goal.invariant-ops
invariant-ops l = (t : List ℕ) → listed l.groups t ≡ listed l.fn.groups t ++ times_declared l.number t (take l.op-index l.ops)
