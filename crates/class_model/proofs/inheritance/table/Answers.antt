use Rattle.std.proofs.Common.{map, sym, length, ◌≤◌, arith}
use Rattle.std.proofs.lemmas.List.{length-map}
use Rattle.class_model.proofs.Rows.{all_rows, no_rows, one_row, row_of_map}
use Rattle.class_model.proofs.inheritance.table.Goals as goal

pub classes-init : goal.classes-init
classes-init c = λ down. rw c.new-rows.ensures (no_rows (map (λ d. d.parents) c.args.classes.now) down)

pub classes-preserved : goal.classes-preserved
classes-preserved c = λ down.
    rw (c.in_ok-push.ensures.ok, c.in_ok-flags.ensures, c.as_slice.ensures, c.as_slice-parents.ensures)
    (one_row (map (λ d. d.parents) c.args.classes.now) down c.classes.rows c.classes.i _ _ (c.classes.invariant down) c.classes-test.true
    (sym (row_of_map (λ d. d.parents) c.args.classes.now c.classes.i _ c.classes-test.true c.index-classes-i.is)))

pub returns : goal.returns
returns c = all_rows (map (λ d. d.parents) c.args.classes.now) c.requires.downward c.classes.rows c.classes.i (c.classes.invariant c.requires.downward)
    (let l = length-map c.args.classes.now (λ d. d.parents) in omega arith)
