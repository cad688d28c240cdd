use Rattle.std.proofs.Common.{◌≡◌, ◌++◌, map, take}
use Rattle.class_decls.proofs.names.add_heads.Given as goal

abbrev pub invariant-ops : goal.invariant-ops
invariant-ops l = map (λ h. h.now) l.found.items ≡ map (λ h. h.now) l.fn.found.items ++ take l.op-index l.ops
