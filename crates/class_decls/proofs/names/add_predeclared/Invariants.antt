use Rattle.std.proofs.Common.{◌≡◌, ◌++◌, map, take}
use Rattle.class_decls.specs.Names.{given}
use Rattle.class_decls.proofs.names.add_predeclared.Given as goal

abbrev pub invariant-texts : goal.invariant-texts
invariant-texts l = l.names.items ≡ l.fn.names.items ++ map (λ t. given l.space t.now) (take l.text-index l.texts)
