use Rattle.std.proofs.Common.{◌≡◌, true, take, is_eq}
use Rattle.std.specs.List.{list_any}
use Rattle.use_orders.specs.Canon.{all_differ, has}
use Rattle.use_orders.proofs.references.all_differ.Given as goal

abbrev pub invariant-each : goal.invariant-each
invariant-each g l = record {
  seen : (z : g.row.T.Denot) → list_any (λ y. is_eq (g.T.Ord.cmp z y.now)) l.seen.keys ≡ has g.T.Ord.cmp (take l.x-index l.items) z;
  differ : all_differ g.T.Ord.cmp (take l.x-index l.items) ≡ true;
}
