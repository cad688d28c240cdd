use Rattle.std.proofs.Common.{◌≡◌, take, is_eq}
use Rattle.std.specs.List.{list_any}
use Rattle.use_orders.specs.Canon.{has}
use Rattle.use_orders.proofs.references.ordered.Given as goal

abbrev pub invariant-each : goal.invariant-each
invariant-each g l = (z : g.row.T.Denot) → list_any (λ x. is_eq (g.T.Ord.cmp z x.now)) l.seen.keys ≡ has g.T.Ord.cmp (take l.x-index l.items) z
