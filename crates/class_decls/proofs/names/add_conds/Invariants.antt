use Rattle.std.proofs.Common.{◌≡◌, ◌++◌, map, take}
use Rattle.class_decls.specs.Names.{cond_space, entry}
use Rattle.class_decls.proofs.names.add_conds.Given as goal

abbrev pub invariant-conds : goal.invariant-conds
invariant-conds l = l.names.items ≡ l.fn.names.items ++ map (λ c. entry (cond_space l.context_heads c.class.text c.kind) c.name) (take l.cond-index l.conds)
