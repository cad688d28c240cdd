use Rattle.std.proofs.Common.{◌≡◌, ◌++◌, map, take}
use Rattle.class_decls.specs.Names.{entry}
use Rattle.class_decls.proofs.entry.add_entries.Given as goal

abbrev pub invariant-items : goal.invariant-items
invariant-items g l = l.names.items ≡ l.fn.names.items ++ map (λ x. entry l.space (g.T.Named.name_of x)) (take l.item-index l.items)
