use Rattle.std.proofs.Common.{◌≡◌, ◌++◌, ◌∷◌, [], map, take}
use Rattle.std.specs.List.{flat_map}
use Rattle.class_decls.proofs.references.add_ends.Given as goal

abbrev pub invariant-assocs : goal.invariant-assocs
invariant-assocs l = map (λ n. n.now) l.found.items ≡ map (λ n. n.now) l.fn.found.items ++ flat_map (λ a. a.first.class ∷ a.second.class
    ∷ []) (take l.assoc-index l.assocs)
