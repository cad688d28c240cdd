use Rattle.std.proofs.Common.{◌≡◌, ◌++◌, map, take}
use Rattle.class_decls.proofs.references.add_names.Given as goal

abbrev pub invariant-names : goal.invariant-names
invariant-names l = map (λ n. n.now) l.found.items ≡ map (λ n. n.now) l.fn.found.items ++ take l.name-index l.names
