use Rattle.std.proofs.Common.{◌≡◌, ◌++◌, ◌∷◌, [], ◌∙◌, sym, ap, subst, IfOk}
use Rattle.use_orders.proofs.Staying.{firsts_push}
use Rattle.ocl_values.specs.Order.{value_cmp}
use Rattle.ocl_values.specs.Shape.{canonical}
use Rattle.ocl_values.proofs.Exact.{value_exact}
use Rattle.ocl_collections.proofs.Rising.{kept_of, bag_up}
use Rattle.ocl_collections.proofs.adding.with_element_put.Goals as goal

pub insert_absent-requires-clause-exact : goal.insert_absent-requires-clause-exact
insert_absent-requires-clause-exact c = value_exact

pub insert-requires-clause-exact : goal.insert-requires-clause-exact
insert-requires-clause-exact c = value_exact

pub insert-requires-clause-sorted : goal.insert-requires-clause-sorted
insert-requires-clause-sorted c = bag_up c.args.kind c.args.items.items c.requires c.in-Bag.is

pub returns-in-OrderedSet : goal.returns-in-OrderedSet
returns-in-OrderedSet c =
    let kept = subst (λ k. canonical k c.args.items.items ≡ c.args.items.items) c.in-OrderedSet.is (kept_of c.args.kind c.args.items.items c.requires) in
    subst (λ l. IfOk c.pushed_once.result (λ v. v.items ≡ l))
    (firsts_push value_cmp c.args.items.items c.args.x.now kept ∙ sym (ap (λ k. canonical k (c.args.items.items ++ c.args.x.now ∷ [])) c.in-OrderedSet.is))
    c.pushed_once.ensures
