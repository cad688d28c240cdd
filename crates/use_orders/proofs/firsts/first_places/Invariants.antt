use Rattle.std.proofs.Common.{◌≡◌, ◌<◌, ℕ, true, length, get_or, take, is_eq}
use Rattle.std.specs.List.{list_any}
use Rattle.use_orders.specs.Canon.{has}
use Rattle.use_orders.specs.Walks.{is_first}
use Rattle.use_orders.proofs.firsts.first_places.Given as goal

abbrev pub invariant-mark : goal.invariant-mark
invariant-mark g l = record {
  len : length l.places.items ≡ l.x-index;
  seen : (z : g.row.T.Denot) → list_any (λ y. is_eq (g.T.Ord.cmp z y.now)) l.seen.keys ≡ has g.T.Ord.cmp (take l.x-index l.items) z;
  places : (k : ℕ) (d : g.row.T.Denot) → k < l.x-index → get_or l.places.items k true ≡ is_first g.T.Ord.cmp l.items k (get_or l.items k d);
}
