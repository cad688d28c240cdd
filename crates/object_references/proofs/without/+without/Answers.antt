use Rattle.std.proofs.Common.{◌≡◌, All, IfOk, ap, sym, subst, ◌∙◌}
use Rattle.ocl_values.specs.Shape.{IsWellMade, canon}
use Rattle.object_references.specs.References.{all_without, without_object}
use Rattle.object_references.proofs.Listed.{without_Coll}
use Rattle.object_references.proofs.Smaller.{smaller_result}
use Rattle.object_references.proofs.Well.{all_well}
use Rattle.object_references.proofs.without.+without.Goals as goal

pub without_object-make-requires : goal.without_object-make-requires
without_object-make-requires t c =
    subst (All IsWellMade) (sym c.in_ok-items-in-Coll.ensures) (all_well c.args.object c.as_slice.result.now)

pub without_object-returns-in_ok-items-in-Coll-clause-value : goal.without_object-returns-in_ok-items-in-Coll-clause-value
without_object-returns-in_ok-items-in-Coll-clause-value t c =
    let same : canon c.in-Coll.kind c.in_ok-items-in-Coll.items.items ≡ without_object c.args.object c.args.value.now =
    ap (canon c.in-Coll.kind) (c.in_ok-items-in-Coll.ensures ∙ ap (all_without c.args.object) c.as_slice.ensures)
    ∙ sym (ap (without_object c.args.object) c.in-Coll.is ∙ without_Coll c.args.object c.in-Coll.kind c.in-Coll.items) in
    subst (λ w. IfOk c.make.result (λ v. v ≡ w)) same c.make.ensures.value

pub without_object-returns-in_ok-items-in-Coll-clause-no_larger : goal.without_object-returns-in_ok-items-in-Coll-clause-no_larger
without_object-returns-in_ok-items-in-Coll-clause-no_larger t c =
    let same : canon c.in-Coll.kind c.in_ok-items-in-Coll.items.items ≡ without_object c.args.object c.args.value.now =
    ap (canon c.in-Coll.kind) (c.in_ok-items-in-Coll.ensures ∙ ap (all_without c.args.object) c.as_slice.ensures)
    ∙ sym (ap (without_object c.args.object) c.in-Coll.is ∙ without_Coll c.args.object c.in-Coll.kind c.in-Coll.items) in
    smaller_result c.make.result c.args.object c.args.value.now (subst (λ w. IfOk c.make.result (λ v. v ≡ w)) same c.make.ensures.value)
