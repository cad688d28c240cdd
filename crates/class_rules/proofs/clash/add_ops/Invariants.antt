use Rattle.std.proofs.Common.{◌≡◌, ◌++◌, ℕ, List, map, take}
use Rattle.class_rules.specs.Groups.{listed}
use Rattle.class_rules.specs.Operations.{ops_named}
use Rattle.class_rules.proofs.clash.add_ops.Given as goal

abbrev pub invariant-ops : goal.invariant-ops
invariant-ops l = (t : List ℕ) → map (λ op. op.now) (listed l.groups t) ≡ map (λ op. op.now) (listed l.fn.groups t) ++ ops_named t (take l.op-index l.ops)
