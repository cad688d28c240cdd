use Rattle.std.proofs.Common.{◌∙◌, ◌++◌, ap, sym, subst}
use Rattle.std.proofs.lemmas.List.Elements.{recursion_from_All}
use Rattle.ocl_values.specs.Shape.{canonical, IsWellMade, are_unfit}
use Rattle.ocl_collections.specs.Flattening.{all_leaves}
use Rattle.ocl_collections.proofs.Moved.{made_flattened, made_flattened_well}
use Rattle.ocl_collections.proofs.flattening.flatten.Goals as goal

pub returns-clause-value : goal.returns-clause-value
returns-clause-value c =
    c.collection.ensures
    ∙ made_flattened c.args.kind c.args.items.items _ (recursion_from_All IsWellMade c.args.items.items c.requires)
    (ap are_unfit (sym c.as_slice.ensures.value) ∙ sym c.are_unfit.ensures ∙ c.if-are_unfit.false)
    (c.in_ok-canonical.ensures
    ∙ ap (canonical c.args.kind) (c.in_ok-move_all_leaves.ensures ∙ ap (λ l. l ++ all_leaves c.args.items.items) c.new-leaves.ensures.items))

pub returns-clause-well_made : goal.returns-clause-well_made
returns-clause-well_made c =
    subst IsWellMade (sym c.collection.ensures)
    (made_flattened_well c.args.kind c.args.items.items _ (recursion_from_All IsWellMade c.args.items.items c.requires)
    (ap are_unfit (sym c.as_slice.ensures.value) ∙ sym c.are_unfit.ensures ∙ c.if-are_unfit.false)
    (c.in_ok-canonical.ensures
    ∙ ap (canonical c.args.kind) (c.in_ok-move_all_leaves.ensures ∙ ap (λ l. l ++ all_leaves c.args.items.items) c.new-leaves.ensures.items)))
