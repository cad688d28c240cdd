use Rattle.std.proofs.Common.{◌≡◌, ◌++◌, map, take}
use Rattle.std.specs.List.{flat_map}
use Rattle.class_decls.proofs.references.add_class_types.Given as goal

abbrev pub invariant-classes : goal.invariant-classes
invariant-classes l = map (λ n. n.now) l.found.items ≡ map (λ n. n.now) l.fn.found.items ++ flat_map (λ c. map (λ a. a.of_type.name) c.attrs)
    (take l.class-index l.classes)
