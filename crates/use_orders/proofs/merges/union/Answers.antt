use Rattle.std.proofs.Common.{IfOk, ◌≡◌, subst}
use Rattle.use_orders.proofs.Merged.{set_union}
use Rattle.use_orders.proofs.merges.union.Goals as goal

pub returns : goal.returns
returns g c =
    subst (λ l. IfOk c.merge.result (λ v. v.items ≡ l)) (set_union g.met.T.Ord.total c.requires.exact _ _ c.requires.first c.requires.second) c.merge.ensures
