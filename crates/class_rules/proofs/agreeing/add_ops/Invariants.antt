use Rattle.std.proofs.Common.{◌≡◌, ◌++◌, map, take}
use Rattle.class_rules.proofs.agreeing.add_ops.Given as goal

abbrev pub invariant-ops : goal.invariant-ops
invariant-ops l = map (λ op. op.now) l.found.items ≡ map (λ op. op.now) l.fn.found.items ++ take l.op-index l.ops
