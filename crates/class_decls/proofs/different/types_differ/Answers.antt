use Rattle.std.proofs.Common.{[]}
use Rattle.class_decls.proofs.Joined.{joined4}
use Rattle.class_decls.proofs.different.types_differ.Goals as goal

pub returns : goal.returns
returns c =
    let texts = joined4 [] _ _ _ _ _ _ _ _
    (rw c.new-texts.ensures.items at c.in_ok-add_given.ensures)
    (rw c.as_slice.ensures at c.in_ok-add_declared.ensures)
    (rw c.as_slice-2.ensures at c.in_ok-add_declared-2.ensures)
    (rw c.as_slice-3.ensures at c.in_ok-add_declared-3.ensures) in
    rw (c.as_slice-4.ensures.value, texts) at c.all_differ.ensures
