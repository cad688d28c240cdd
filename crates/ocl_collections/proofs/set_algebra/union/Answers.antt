use Rattle.std.proofs.Common.{◌∙◌, ◌++◌, sym, ap}
use Rattle.ocl_collections.specs.SetAlgebra.{in_kind}
use Rattle.ocl_collections.proofs.Collected.{joined}
use Rattle.ocl_collections.proofs.set_algebra.union.Goals as goal

pub returns-in_ok-all-in-Some : goal.returns-in_ok-all-in-Some
returns-in_ok-all-in-Some c =
    c.collection.ensures
    ∙ joined c.args.kind c.args.other c.in-Some.joined c.args.items.now c.args.others.now _ c.requires.first c.requires.second c.in_ok-all-in-Some.ensures
    ∙ sym (ap (λ k. in_kind k (c.args.items.now ++ c.args.others.now)) (sym c.union_kind.ensures ∙ c.in-Some.is))
