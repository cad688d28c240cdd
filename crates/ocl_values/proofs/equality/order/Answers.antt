use Rattle.std.proofs.Common.{◌∙◌}
use Rattle.ocl_values.proofs.Exact.{cmp_by_rank, equal_exact}
use Rattle.ocl_values.proofs.equality.order.Goals as goal

pub returns-clause-ranked : goal.returns-clause-ranked
returns-clause-ranked c = c.cmp.ensures ∙ cmp_by_rank c.args.a.now c.args.b.now

pub returns-clause-exact : goal.returns-clause-exact
returns-clause-exact c = equal_exact c.cmp.result c.args.a.now c.args.b.now c.cmp.ensures
