use Rattle.std.proofs.Common.{◌≡◌, ◌++◌, map, take}
use Rattle.std.specs.List.{flat_map}
use Rattle.class_decls.specs.References.{head_types}
use Rattle.class_decls.proofs.references.add_types_of_heads.Given as goal

abbrev pub invariant-heads : goal.invariant-heads
invariant-heads l = map (λ n. n.now) l.found.items ≡ map (λ n. n.now) l.fn.found.items ++ flat_map (λ h. head_types h.now) (take l.head-index l.heads)
