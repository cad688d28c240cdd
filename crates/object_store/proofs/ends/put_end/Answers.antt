use Rattle.std.proofs.Common.{sym, ap, ◌∙◌, ℕ, List}
use Rattle.std.specs.BTreeMap.{insert_entry}
use Rattle.std.specs.Ordering.{nat_cmp}
use Rattle.object_store.specs.Ends.{row_at}
use Rattle.object_store.specs.Indexes.{with_row}
use Rattle.object_store.specs.declared.ends.Row.{Row}
use Rattle.object_store.specs.declared.ends.Row.TheVariants.{One}
use Rattle.object_store.proofs.Cells.{none_by}
use Rattle.object_store.proofs.Rows.{err_then, ok_then, row_put, was_none}
use Rattle.object_store.proofs.ends.put_end.Goals as goal

pub returns-else-has-clause-ok : goal.returns-else-has-clause-ok
returns-else-has-clause-ok c =
    ok_then c.insert.result (λ e q. ap (λ (m : List ((ℕ × ℕ) × Row)). row_at m q) e
    ∙ row_put c.args.ends.now c.args.at (One c.args.link.0 c.args.link.1) q
    ∙ ap (λ (row : List (ℕ × ℕ)). with_row (row_at c.args.ends.now) c.args.at (insert_entry nat_cmp row c.args.link.0 c.args.link.1) q)
    (sym (was_none c.args.ends.now c.args.at (none_by _ (sym c.has.ensures ∙ c.if-has.false)))))
    c.insert.ensures.ok

pub returns-else-has-clause-err : goal.returns-else-has-clause-err
returns-else-has-clause-err c =
    err_then c.insert.result (λ e q. ap (λ (m : List ((ℕ × ℕ) × Row)). row_at m q) e) c.insert.ensures.err
