use Rattle.std.proofs.Common.{nat_eq, sym, ◌∙◌}
use Rattle.class_rules.proofs.PlacedClasses.{position_next}
use Rattle.class_rules.proofs.numbers.numbers_of.Goals as goal

pub order-preserved : goal.order-preserved
order-preserved c = (
  c.give_number.ensures.size ∙ c.order.invariant.0,
  λ i. c.give_number.ensures.given i ∙ rw (c.order.invariant.1 i) (sym (position_next (nat_eq i) c.args.order.now c.order.number c.order-test.true)),
)
