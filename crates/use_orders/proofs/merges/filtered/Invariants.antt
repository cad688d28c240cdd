use Rattle.std.proofs.Common.{◌≡◌, take, filter}
use Rattle.use_orders.specs.Canon.{has}
use Rattle.use_orders.specs.Walks.{answers}
use Rattle.use_orders.proofs.merges.filtered.Given as goal

abbrev pub invariant-pick : goal.invariant-pick
invariant-pick g l = l.out.items ≡ filter (λ x. answers l.there (has g.T.Ord.cmp l.b x)) (take l.x-index l.a)
