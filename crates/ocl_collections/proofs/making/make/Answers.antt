use Rattle.std.proofs.Common.{◌∙◌, ap, subst, sym}
use Rattle.std.proofs.lemmas.List.Elements.{recursion_from_All}
use Rattle.ocl_values.specs.Shape.{IsWellMade, are_unfit}
use Rattle.ocl_collections.proofs.Parts.{made_well}
use Rattle.ocl_collections.proofs.making.make.Goals as goal

pub returns-clause-well_made : goal.returns-clause-well_made
returns-clause-well_made c =
    subst IsWellMade (sym c.collection.ensures)
    (made_well c.args.kind c.args.items.items _ (recursion_from_All IsWellMade c.args.items.items c.requires)
    (ap are_unfit (sym c.as_slice.ensures.value) ∙ sym c.are_unfit.ensures ∙ c.if-are_unfit.false)
    c.in_ok-canonical.ensures)
