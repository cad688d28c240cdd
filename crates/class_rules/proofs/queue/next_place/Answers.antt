use Rattle.std.proofs.Common.{◌<◌, sym, ◌∙◌, arith, get_or, length}
use Rattle.class_rules.specs.Numbering.{row_at}
use Rattle.class_rules.proofs.Queued.{among_at, next_found, none_left, parked, passed_over, within}
use Rattle.class_rules.proofs.queue.next_place.Goals.{then-not-has_number+else-next-row+in_ok-wait_for, else-not-has_number}
use Rattle.class_rules.proofs.queue.next_place.Goals as goal

pub returns-then-next-row-clause-place : goal.returns-then-next-row-clause-place
returns-then-next-row-clause-place c =
    next_found c.args.parents.now c.args.done.now c.classes.passed.items c.classes.waiting.items c.classes.ready c.classes.invariant
    c.first-place.result c.next_open-next.result c.first-place.ensures.least (sym c.has_number.ensures ∙ c.if-not-has_number.true)
    (rw c.row_at-row.ensures at c.next_open-next.ensures.numbered) (rw c.row_at-row.ensures at c.if-next-row.true)

pub classes-preserved : goal.classes-preserved
classes-preserved c =
    let kept = rw (← c.first-place.ensures.first) at c.drop_first.ensures.kept in
    elim c.if-not-has_number.branch [
      | then-not-has_number+else-next-row+in_ok-wait_for w ↦
          let bare = sym c.has_number.ensures ∙ w.if-not-has_number.true in
          let more : w.next_open-next.result < length (row_at c.args.parents.now c.first-place.result) = rw w.row_at-row.ensures at w.if-next-row.false in
          let open_parent = w.next_open-next.ensures.unnumbered w.if-next-row.false in
          rw (w.passed-is, w.waiting-is)
          (parked c.args.parents.now c.args.done.now c.classes.passed.items c.classes.waiting.items w.wait_for.new.waiting.items c.first-place.result
          c.classes.ready c.drop_first.new.self w.next_open-next.result (get_or w.row_at-row.result.now w.next_open-next.result 0) c.classes.invariant kept
          (let low = within c.args.done.now c.first-place.result bare in let size = c.classes.invariant.flags in omega arith)
          (rw w.row_at-row.ensures at w.next_open-next.ensures.numbered)
          open_parent
          (rw w.row_at-row.ensures (among_at (row_at c.args.parents.now c.first-place.result) w.next_open-next.result more))
          w.in_ok-wait_for.ensures.size w.in_ok-wait_for.ensures.listed w.in_ok-wait_for.ensures.kept)
      | else-not-has_number w ↦
          rw (w.passed-is, w.waiting-is)
          (passed_over c.args.parents.now c.args.done.now c.classes.passed.items c.classes.waiting.items c.first-place.result c.classes.ready
          c.drop_first.new.self c.classes.invariant kept (sym c.has_number.ensures ∙ w.if-not-has_number.false))
    ]

pub returns-clause-place : goal.returns-clause-place
returns-clause-place c =
    none_left c.args.parents.now c.args.done.now c.classes.passed.items c.classes.waiting.items c.classes.ready c.classes.invariant
    c.first.result c.first.ensures.least c.classes-test.false
