use Rattle.std.proofs.Common.{◌≡◌, subst, IfOk}
use Rattle.use_orders.proofs.Beside.{bag_images}
use Rattle.use_orders.proofs.keyed.sort_by_keys.Goals as goal

pub returns : goal.returns
returns g c =
    subst (λ l. IfOk c.by_keys.result (λ v. v.items ≡ l))
    (bag_images (λ p. (p.key, p.item)) (λ a b. g.K.Ord.cmp a.0 b.0) (λ p. p.1) c.in_ok-beside.field-0.items _ c.in_ok-beside.ensures) c.by_keys.ensures
