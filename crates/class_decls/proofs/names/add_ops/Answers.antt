use Rattle.std.proofs.Common.{map}
use Rattle.class_decls.specs.Names.{entry}
use Rattle.class_decls.specs.declared.entry.Space.TheVariants as s
use Rattle.class_decls.proofs.Numbered.{numbered_more}
use Rattle.class_decls.proofs.names.add_ops.Goals as goal

pub classes-preserved : goal.classes-preserved
classes-preserved c =
    rw (c.in_ok-add_entries.ensures, c.as_slice.ensures, c.classes.invariant)
    (numbered_more (λ i c. map (λ op. entry (s.Operations i) op.name) c.ops) _ _ _ _ c.classes-test.true c.index-classes-i.is)
