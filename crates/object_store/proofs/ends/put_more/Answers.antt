use Rattle.std.proofs.Common.{sym, ap, ◌∙◌, ℕ, List, is_some}
use Rattle.std.specs.BTreeMap.{insert_entry}
use Rattle.std.specs.Ordering.{nat_cmp}
use Rattle.object_store.specs.Ends.{row_at}
use Rattle.object_store.specs.Indexes.{with_row}
use Rattle.object_store.specs.declared.ends.Row.TheVariants.{One}
use Rattle.object_store.proofs.Rows.{err_then, ok_then, row_changed, stand_there, was_there, with_itself}
use Rattle.object_store.proofs.ends.put_more.Goals as goal

pub replace-requires : goal.replace-requires
replace-requires c =
    ap is_some (stand_there c.args.ends.now c.args.at c.replace-row.result (One c.args.link.0 c.args.link.1) c.replace-row.ensures.held c.replace-row.new.self c.replace-row.ensures.map)

pub returns-clause-ok : goal.returns-clause-ok
returns-clause-ok c =
    ok_then c.insert-put.result (λ e q.
    row_changed c.args.ends.now c.args.at c.replace-row.result (One c.args.link.0 c.args.link.1) c.replace-row.ensures.held c.replace-row.new.self c.replace-row.ensures.map
    c.insert-put.new.self c.replace.new.self c.replace.ensures.map q
    ∙ ap (λ (row : List (ℕ × ℕ)). with_row (row_at c.args.ends.now) c.args.at row q) (e
    ∙ ap (λ (row : List (ℕ × ℕ)). insert_entry nat_cmp row c.args.link.0 c.args.link.1) (sym (was_there c.args.ends.now c.args.at c.replace-row.result c.replace-row.ensures.held))))
    c.insert-put.ensures.ok

pub returns-clause-err : goal.returns-clause-err
returns-clause-err c =
    err_then c.insert-put.result (λ e q.
    row_changed c.args.ends.now c.args.at c.replace-row.result (One c.args.link.0 c.args.link.1) c.replace-row.ensures.held c.replace-row.new.self c.replace-row.ensures.map
    c.insert-put.new.self c.replace.new.self c.replace.ensures.map q
    ∙ ap (λ (row : List (ℕ × ℕ)). with_row (row_at c.args.ends.now) c.args.at row q) (e ∙ sym (was_there c.args.ends.now c.args.at c.replace-row.result c.replace-row.ensures.held))
    ∙ with_itself (row_at c.args.ends.now) c.args.at q)
    c.insert-put.ensures.err
