use Rattle.std.proofs.Common.{◌≡◌, ◌++◌, map, take}
use Rattle.class_decls.specs.Names.{entry, numbered}
use Rattle.class_decls.specs.declared.entry.Space.TheVariants as s
use Rattle.class_decls.proofs.names.add_literals.Given as goal

abbrev pub invariant-enums : goal.invariant-enums
invariant-enums l = l.names.items ≡ l.fn.names.items ++ numbered (λ i e. map (entry (s.Literals i)) e.literals) (take l.i l.enums)
