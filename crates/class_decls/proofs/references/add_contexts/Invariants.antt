use Rattle.std.proofs.Common.{◌≡◌, ◌++◌, map, take}
use Rattle.class_decls.proofs.references.add_contexts.Given as goal

abbrev pub invariant-conds : goal.invariant-conds
invariant-conds l = map (λ n. n.now) l.found.items ≡ map (λ n. n.now) l.fn.found.items ++ map (λ c. c.class) (take l.cond-index l.conds)
