use Rattle.std.proofs.lemmas.Cmp.{nat_cmp_total}
use Rattle.std.specs.FinMap.{nat_cmp-IsAntisymmetric}
use Rattle.use_orders.proofs.Merged.{set_made}
use Rattle.use_orders.proofs.tests.distinct.Goals as goal

pub returns : goal.returns
returns c = set_made nat_cmp_total nat_cmp-IsAntisymmetric c.in_ok-copied.field-0.items _ c.in_ok-sorted.ensures
