use Rattle.std.proofs.Common.{◌≡◌, ◌++◌, map, take}
use Rattle.std.specs.List.{flat_map}
use Rattle.class_decls.proofs.names.add_class_heads.Given as goal

abbrev pub invariant-classes : goal.invariant-classes
invariant-classes l = map (λ h. h.now) l.found.items ≡ map (λ h. h.now) l.fn.found.items ++ flat_map (λ c. c.ops) (take l.class-index l.classes)
