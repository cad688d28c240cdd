use Rattle.std.proofs.Common.{sym, ap, ◌∙◌, ℕ, List}
use Rattle.std.specs.BTreeMap.{is_at}
use Rattle.std.specs.Map.{remove_entry}
use Rattle.std.specs.Ordering.{nat_cmp}
use Rattle.object_store.specs.Ends.{row_at}
use Rattle.object_store.specs.Indexes.{with_row}
use Rattle.object_store.proofs.Cells.{none_by}
use Rattle.object_store.proofs.Rows.{was_none, with_itself}
use Rattle.object_store.proofs.ends.take_end.Goals as goal

pub returns-else-has : goal.returns-else-has
returns-else-has c = λ q.
    let none = was_none c.args.ends.now c.args.at (none_by _ (sym c.has.ensures ∙ c.if-has.false)) in
    sym (ap (λ (row : List (ℕ × ℕ)). with_row (row_at c.args.ends.now) c.args.at (remove_entry (is_at (nat_cmp c.args.stamp)) row) q) none
    ∙ ap (λ (row : List (ℕ × ℕ)). with_row (row_at c.args.ends.now) c.args.at row q) (sym none)
    ∙ with_itself (row_at c.args.ends.now) c.args.at q)
