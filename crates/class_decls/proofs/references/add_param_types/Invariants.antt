use Rattle.std.proofs.Common.{◌≡◌, ◌++◌, map, take}
use Rattle.class_decls.proofs.references.add_param_types.Given as goal

abbrev pub invariant-params : goal.invariant-params
invariant-params l = map (λ n. n.now) l.found.items ≡ map (λ n. n.now) l.fn.found.items ++ map (λ p. p.of_type.name) (take l.param-index l.param-items)
