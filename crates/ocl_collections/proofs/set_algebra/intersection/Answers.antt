use Rattle.std.proofs.Common.{◌∙◌, sym, subst, ap₂}
use Rattle.use_orders.specs.Canon.{has}
use Rattle.ocl_values.specs.Order.{value_cmp}
use Rattle.ocl_values.specs.Shape.{IsWellMade}
use Rattle.ocl_values.specs.declared.value.Kind.TheVariants.{Set}
use Rattle.ocl_values.specs.declared.value.Value.TheVariants.{Coll}
use Rattle.ocl_collections.specs.SetAlgebra.{intersection}
use Rattle.ocl_collections.proofs.Collected.{some_of, shared_bags, shared_turned}
use Rattle.ocl_collections.proofs.Rising.{set_up, bag_up}
use Rattle.ocl_collections.proofs.set_algebra.intersection.Goals as goal

pub within-requires : goal.within-requires
within-requires c = record { sorted = set_up c.args.other c.args.others.now c.requires.second c.in-Set-Set.is-1 }

pub within-requires-in-Set-Bag : goal.within-requires-in-Set-Bag
within-requires-in-Set-Bag c = record { sorted = bag_up c.args.other c.args.others.now c.requires.second c.in-Set-Bag.is-1 }

pub within-requires-in-Bag-Set : goal.within-requires-in-Bag-Set
within-requires-in-Bag-Set c = record { sorted = bag_up c.args.kind c.args.items.now c.requires.first c.in-Bag-Set.is-0 }

pub common-requires-clause-first : goal.common-requires-clause-first
common-requires-clause-first c = bag_up c.args.kind c.args.items.now c.requires.first c.in-Bag-Bag.is-0

pub common-requires-clause-second : goal.common-requires-clause-second
common-requires-clause-second c = bag_up c.args.other c.args.others.now c.requires.second c.in-Bag-Bag.is-1

pub returns-in_ok-within-in-Set-Set : goal.returns-in_ok-within-in-Set-Set
returns-in_ok-within-in-Set-Set c =
    c.collection.ensures
    ∙ some_of Set (has value_cmp c.args.others.now) c.args.items.now _ (subst (λ k. IsWellMade (Coll k c.args.items.now)) c.in-Set-Set.is-0 c.requires.first)
    c.in_ok-within-in-Set-Set.ensures
    ∙ sym (ap₂ (λ k o. intersection k c.args.items.now o c.args.others.now) c.in-Set-Set.is-0 c.in-Set-Set.is-1)

pub returns-in_ok-within-in-Set-Bag : goal.returns-in_ok-within-in-Set-Bag
returns-in_ok-within-in-Set-Bag c =
    c.collection-in-Set-Bag.ensures
    ∙ some_of Set (has value_cmp c.args.others.now) c.args.items.now _ (subst (λ k. IsWellMade (Coll k c.args.items.now)) c.in-Set-Bag.is-0 c.requires.first)
    c.in_ok-within-in-Set-Bag.ensures
    ∙ sym (ap₂ (λ k o. intersection k c.args.items.now o c.args.others.now) c.in-Set-Bag.is-0 c.in-Set-Bag.is-1)

pub returns-in_ok-within-in-Bag-Set : goal.returns-in_ok-within-in-Bag-Set
returns-in_ok-within-in-Bag-Set c =
    c.collection-in-Bag-Set.ensures
    ∙ shared_turned c.args.kind c.args.items.now c.args.others.now _ c.requires.first
    (subst (λ k. IsWellMade (Coll k c.args.others.now)) c.in-Bag-Set.is-1 c.requires.second) c.in_ok-within-in-Bag-Set.ensures
    ∙ sym (ap₂ (λ k o. intersection k c.args.items.now o c.args.others.now) c.in-Bag-Set.is-0 c.in-Bag-Set.is-1)

pub returns-in_ok-common-in-Bag-Bag : goal.returns-in_ok-common-in-Bag-Bag
returns-in_ok-common-in-Bag-Bag c =
    c.collection-in-Bag-Bag.ensures
    ∙ shared_bags c.args.items.now c.args.others.now _ (subst (λ k. IsWellMade (Coll k c.args.items.now)) c.in-Bag-Bag.is-0 c.requires.first)
    c.in_ok-common-in-Bag-Bag.ensures
    ∙ sym (ap₂ (λ k o. intersection k c.args.items.now o c.args.others.now) c.in-Bag-Bag.is-0 c.in-Bag-Bag.is-1)
