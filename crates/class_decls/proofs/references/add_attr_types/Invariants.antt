use Rattle.std.proofs.Common.{◌≡◌, ◌++◌, map, take}
use Rattle.class_decls.proofs.references.add_attr_types.Given as goal

abbrev pub invariant-attrs : goal.invariant-attrs
invariant-attrs l = map (λ n. n.now) l.found.items ≡ map (λ n. n.now) l.fn.found.items ++ map (λ a. a.of_type.name) (take l.attr-index l.attr-items)
