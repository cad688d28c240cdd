use Rattle.std.proofs.Common.{◌≡◌, ◌++◌, map, take}
use Rattle.class_decls.proofs.entry.add_texts.Given as goal

abbrev pub invariant-items : goal.invariant-items
invariant-items g l = l.texts.items ≡ l.fn.texts.items ++ map (λ x. (g.T.Named.name_of x).text) (take l.item-index l.items)
