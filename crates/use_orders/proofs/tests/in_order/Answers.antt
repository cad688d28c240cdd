use Rattle.std.proofs.lemmas.Cmp.{nat_cmp_total}
use Rattle.std.proofs.Common.{subst, sym}
use Rattle.std.specs.Ordering.{nat_cmp}
use Rattle.use_orders.proofs.Bags.{Ascends, Ascends-bag_of, sorted_up}
use Rattle.use_orders.proofs.tests.in_order.Goals as goal

pub returns : goal.returns
returns c =
    sorted_up nat_cmp nat_cmp_total _ (subst (Ascends nat_cmp) (sym c.in_ok-sorted.ensures) (Ascends-bag_of nat_cmp nat_cmp_total c.in_ok-copied.field-0.items))
