use Rattle.std.proofs.Common.{◌≡◌, ◌++◌, map, take}
use Rattle.class_decls.specs.Names.{entry, numbered}
use Rattle.class_decls.specs.declared.entry.Space.TheVariants as s
use Rattle.class_decls.proofs.names.add_ops.Given as goal

abbrev pub invariant-classes : goal.invariant-classes
invariant-classes l = l.names.items ≡ l.fn.names.items ++ numbered (λ i c. map (λ op. entry (s.Operations i) op.name) c.ops) (take l.i l.classes)
