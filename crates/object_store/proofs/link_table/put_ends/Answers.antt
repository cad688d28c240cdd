use Rattle.std.proofs.Common.{ap, ◌∙◌, ℕ}
use Rattle.std.specs.BTreeMap.{insert_entry, is_at}
use Rattle.std.specs.Map.{remove_entry}
use Rattle.std.specs.Ordering.{nat_cmp}
use Rattle.object_store.specs.Ends.{row_at}
use Rattle.object_store.specs.Indexes.{with_row}
use Rattle.object_store.proofs.Rows.{restored_row}
use Rattle.object_store.proofs.link_table.put_ends.Goals as goal

pub returns-in-Ok-clause-seconds : goal.returns-in-Ok-clause-seconds
returns-in-Ok-clause-seconds c = λ k.
    c.in_ok-put_end.ensures.ok k
    ∙ ap (λ (p : ℕ × ℕ). with_row (row_at c.args.seconds.now) p (insert_entry nat_cmp (row_at c.args.seconds.now p) c.args.link.now.stamp c.args.link.now.second) k)
    c.first_end.ensures

pub returns-in-Ok-clause-firsts : goal.returns-in-Ok-clause-firsts
returns-in-Ok-clause-firsts c = λ k.
    c.in-Ok.ensures.ok k
    ∙ ap (λ (p : ℕ × ℕ). with_row (row_at c.args.firsts.now) p (insert_entry nat_cmp (row_at c.args.firsts.now p) c.args.link.now.stamp c.args.link.now.first) k)
    c.second_end.ensures

pub returns-in-Err-clause-no_seconds : goal.returns-in-Err-clause-no_seconds
returns-in-Err-clause-no_seconds c =
    restored_row (row_at c.args.seconds.now) (row_at c.put_end.new.ends) (row_at c.take_end.new.ends) (c.args.link.now.assoc, c.args.link.now.first)
    c.args.link.now.stamp c.args.link.now.second c.requires
    (λ k. c.in_ok-put_end.ensures.ok k
    ∙ ap (λ (p : ℕ × ℕ). with_row (row_at c.args.seconds.now) p (insert_entry nat_cmp (row_at c.args.seconds.now p) c.args.link.now.stamp c.args.link.now.second) k)
    c.first_end.ensures)
    (λ k. c.take_end.ensures k
    ∙ ap (λ (p : ℕ × ℕ). with_row (row_at c.put_end.new.ends) p (remove_entry (is_at (nat_cmp c.args.link.now.stamp)) (row_at c.put_end.new.ends p)) k)
    c.first_end-in-Err.ensures)
