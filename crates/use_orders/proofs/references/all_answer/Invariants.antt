use Rattle.std.proofs.Common.{◌≡◌, drop, is_eq}
use Rattle.std.specs.List.{list_all, list_any}
use Rattle.use_orders.specs.Walks.{answers}
use Rattle.use_orders.proofs.references.all_answer.Given as goal

abbrev pub invariant-seek : goal.invariant-seek
invariant-seek g l =
    list_all (λ y. answers l.there (list_any (λ x. is_eq (g.T.Ord.cmp y x.now)) l.seen.keys)) (drop l.y-index l.others)
    ≡ list_all (λ y. answers l.there (list_any (λ x. is_eq (g.T.Ord.cmp y x.now)) l.seen.keys)) l.others
