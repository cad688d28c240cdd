use Rattle.std.proofs.Common.{length, sym, ◌∙◌, arith}
use Rattle.class_rules.proofs.Flags.{flag_test, further, least_within, start, stuck}
use Rattle.class_rules.proofs.Queued.{advanced, all_ready}
use Rattle.class_rules.proofs.numbering.numbering.Goals as goal

pub numbers-init : goal.numbers-init
numbers-init c =
    let flags = c.in_ok-done.ensures.items_if_clones_equal (λ y e. e) in
    let counts = c.in_ok-passed.ensures.items_if_clones_equal (λ y e. e) in (
      rw (flags, c.new-order.ensures.items) (start c.args.parents.now),
      rw (flags, counts)
          (all_ready c.args.parents.now c.in_ok-waiting.waiting.items c.all-ready.result c.in_ok-waiting.ensures c.all-ready.ensures),
    )

pub returns-in-None : goal.returns-in-None
returns-in-None c =
    stuck c.args.parents.now c.numbers.done.items c.numbers.order.items c.numbers._number c.numbers.invariant.0 c.numbers-test.true
    (sym (rw c.as_slice.ensures.value at c.in_ok-next_place.ensures.place) ∙ c.in-None.is)

pub index_mut-requires : goal.index_mut-requires
index_mut-requires c =
    let low = least_within (flag_test c.args.parents.now c.numbers.done.items c.numbers.order.items c.numbers._number c.numbers.invariant.0 c.numbers-test.true)
    (length c.args.parents.now) c.in-Some.place
    (sym (rw c.as_slice.ensures.value at c.in_ok-next_place.ensures.place) ∙ c.in-Some.is) in
    let size = c.numbers.invariant.1.flags in
    omega arith

pub numbers-preserved : goal.numbers-preserved
numbers-preserved c =
    let found = sym (rw c.as_slice.ensures.value at c.in_ok-next_place.ensures.place) ∙ c.in-Some.is in
    let low = least_within (flag_test c.args.parents.now c.numbers.done.items c.numbers.order.items c.numbers._number c.numbers.invariant.0 c.numbers-test.true)
    (length c.args.parents.now) c.in-Some.place found in
    let size = c.numbers.invariant.1.flags in (
      rw c.in_ok-push-in-Some.ensures.items
          (further c.args.parents.now c.numbers.done.items c.numbers.order.items c.numbers._number c.numbers.invariant.0 c.numbers-test.true
          c.in-Some.place found),
      advanced c.args.parents.now c.numbers.done.items c.next_place.new.passed.items c.next_place.new.waiting.items c.next_place.new.ready
          c.release.new.ready c.in-Some.place (rw c.as_slice.ensures.value at c.in_ok-next_place.ensures.queued) (omega arith)
          (λ i. rw c.as_slice-in-Some.ensures.value at (c.in_ok-release-in-Some.ensures i)),
    )
