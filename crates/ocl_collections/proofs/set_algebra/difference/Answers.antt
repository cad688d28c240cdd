use Rattle.std.proofs.Common.{◌∙◌, not, sym, subst, ap₂}
use Rattle.use_orders.specs.Canon.{has}
use Rattle.ocl_values.specs.Order.{value_cmp}
use Rattle.ocl_values.specs.Shape.{IsWellMade}
use Rattle.ocl_values.specs.declared.value.Kind.TheVariants.{Set}
use Rattle.ocl_values.specs.declared.value.Value.TheVariants.{Coll}
use Rattle.ocl_collections.specs.SetAlgebra.{difference}
use Rattle.ocl_collections.proofs.Collected.{some_of}
use Rattle.ocl_collections.proofs.Rising.{set_up}
use Rattle.ocl_collections.proofs.set_algebra.difference.Goals as goal

pub without-requires : goal.without-requires
without-requires c = record { sorted = set_up c.args.other c.args.others.now c.requires.second c.in-Set-Set.is-1 }

pub returns-in_ok-without-in-Set-Set : goal.returns-in_ok-without-in-Set-Set
returns-in_ok-without-in-Set-Set c =
    c.collection.ensures
    ∙ some_of Set (λ y. not (has value_cmp c.args.others.now y)) c.args.items.now _
    (subst (λ k. IsWellMade (Coll k c.args.items.now)) c.in-Set-Set.is-0 c.requires.first) c.in_ok-without-in-Set-Set.ensures
    ∙ sym (ap₂ (λ k o. difference k c.args.items.now o c.args.others.now) c.in-Set-Set.is-0 c.in-Set-Set.is-1)
