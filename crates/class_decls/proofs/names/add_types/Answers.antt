use Rattle.class_decls.proofs.Joined.{joined4}
use Rattle.class_decls.proofs.names.add_types.Goals as goal

pub returns : goal.returns
returns c =
    joined4 _ _ _ _ _ _ _ _ _ c.in_ok-add_predeclared.ensures
    (rw c.as_slice.ensures at c.in_ok-add_entries.ensures)
    (rw c.as_slice-2.ensures at c.in_ok-add_entries-2.ensures)
    (rw c.as_slice-3.ensures at c.in_ok-add_entries-3.ensures)
