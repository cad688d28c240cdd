use Rattle.std.proofs.Common.{sym, ap, ◌∙◌, ℕ, List, is_some}
use Rattle.std.specs.BTreeMap.{is_at}
use Rattle.std.specs.Map.{remove_entry}
use Rattle.std.specs.Ordering.{nat_cmp}
use Rattle.object_store.specs.Ends.{entries_of, row_at}
use Rattle.object_store.specs.Indexes.{with_row}
use Rattle.object_store.specs.declared.ends.Row.TheVariants.{One}
use Rattle.object_store.proofs.Rows.{row_changed, row_gone, stand_there, was_there}
use Rattle.object_store.proofs.ends.take_there.Goals as goal

pub replace-requires : goal.replace-requires
replace-requires c =
    ap is_some (stand_there c.args.ends.now c.args.at c.replace-row.result (One c.args.stamp c.args.at.1) c.replace-row.ensures.held c.replace-row.new.self c.replace-row.ensures.map)

pub returns-in-None : goal.returns-in-None
returns-in-None c = λ q.
    row_gone c.args.ends.now c.args.at c.replace-row.result (One c.args.stamp c.args.at.1) c.replace-row.ensures.held c.replace-row.new.self c.replace-row.ensures.map
    c.remove.new.self c.remove.ensures.map c.remove.ensures.gone q
    ∙ ap (λ (row : List (ℕ × ℕ)). with_row (row_at c.args.ends.now) c.args.at row q) (ap entries_of (sym c.in-None.is) ∙ c.without.ensures
    ∙ ap (λ (row : List (ℕ × ℕ)). remove_entry (is_at (nat_cmp c.args.stamp)) row) (sym (was_there c.args.ends.now c.args.at c.replace-row.result c.replace-row.ensures.held)))

pub returns-in-Some : goal.returns-in-Some
returns-in-Some c = λ q.
    row_changed c.args.ends.now c.args.at c.replace-row.result (One c.args.stamp c.args.at.1) c.replace-row.ensures.held c.replace-row.new.self c.replace-row.ensures.map
    c.in-Some.rest c.replace.new.self c.replace.ensures.map q
    ∙ ap (λ (row : List (ℕ × ℕ)). with_row (row_at c.args.ends.now) c.args.at row q) (ap entries_of (sym c.in-Some.is) ∙ c.without.ensures
    ∙ ap (λ (row : List (ℕ × ℕ)). remove_entry (is_at (nat_cmp c.args.stamp)) row) (sym (was_there c.args.ends.now c.args.at c.replace-row.result c.replace-row.ensures.held)))
