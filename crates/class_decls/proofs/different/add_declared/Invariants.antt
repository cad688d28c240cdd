use Rattle.std.proofs.Common.{◌≡◌, ◌++◌, map, take}
use Rattle.class_decls.proofs.different.add_declared.Given as goal

abbrev pub invariant-items : goal.invariant-items
invariant-items g l = map (λ t. t.now) l.texts.items ≡ map (λ t. t.now) l.fn.texts.items ++ map (λ x. (g.T.Named.name_of x).text) (take l.item-index l.items)
