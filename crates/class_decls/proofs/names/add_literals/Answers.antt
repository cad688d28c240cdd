use Rattle.std.proofs.Common.{map}
use Rattle.class_decls.specs.Names.{entry}
use Rattle.class_decls.specs.declared.entry.Space.TheVariants as s
use Rattle.class_decls.proofs.Numbered.{numbered_more}
use Rattle.class_decls.proofs.names.add_literals.Goals as goal

pub enums-preserved : goal.enums-preserved
enums-preserved c =
    rw (c.in_ok-add_entries.ensures, c.as_slice.ensures, c.enums.invariant)
    (numbered_more (λ i e. map (entry (s.Literals i)) e.literals) _ _ _ _ c.enums-test.true c.index-enums-i.is)
