use Rattle.std.proofs.Common.{◌≡◌, ◌++◌, map, take}
use Rattle.class_decls.proofs.different.add_given.Given as goal

abbrev pub invariant-names : goal.invariant-names
invariant-names l = map (λ t. t.now) l.texts.items ≡ map (λ t. t.now) l.fn.texts.items ++ map (λ t. t.now) (take l.name-index l.names)
