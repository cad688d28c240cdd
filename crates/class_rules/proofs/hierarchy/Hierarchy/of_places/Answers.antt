use Rattle.class_rules.proofs.Ordered.{numbers_low}
use Rattle.class_rules.proofs.hierarchy.Hierarchy.of_places.Goals as goal

pub numbers_of-requires : goal.numbers_of-requires
numbers_of-requires c = rw (c.as_slice.ensures.value, c.in_ok-order.ensures) (numbers_low c.args.places.now)
