use Rattle.std.proofs.Common.{◌∙◌, sym, subst, ap₂}
use Rattle.ocl_values.specs.Shape.{IsWellMade}
use Rattle.ocl_values.specs.declared.value.Value.TheVariants.{Coll}
use Rattle.ocl_values.proofs.Exact.{value_exact}
use Rattle.ocl_collections.specs.SetAlgebra.{symmetric_difference}
use Rattle.ocl_collections.proofs.Collected.{apart}
use Rattle.ocl_collections.proofs.set_algebra.symmetric_difference.Goals as goal

pub symmetric-requires-clause-exact : goal.symmetric-requires-clause-exact
symmetric-requires-clause-exact c = value_exact

pub returns-in_ok-symmetric-in-Set-Set : goal.returns-in_ok-symmetric-in-Set-Set
returns-in_ok-symmetric-in-Set-Set c =
    c.collection.ensures
    ∙ apart c.args.items.now c.args.others.now _ (subst (λ k. IsWellMade (Coll k c.args.items.now)) c.in-Set-Set.is-0 c.requires.first)
    (subst (λ k. IsWellMade (Coll k c.args.others.now)) c.in-Set-Set.is-1 c.requires.second) c.in_ok-symmetric-in-Set-Set.ensures
    ∙ sym (ap₂ (λ k o. symmetric_difference k c.args.items.now o c.args.others.now) c.in-Set-Set.is-0 c.in-Set-Set.is-1)
