use Rattle.std.proofs.Common.{◌∙◌, subst, sym}
use Rattle.ocl_values.specs.Shape.{IsWellMade}
use Rattle.ocl_collections.proofs.Stays.{selection_is, selection_well}
use Rattle.ocl_collections.proofs.selection.copy_selected.Goals as goal

pub returns-clause-value : goal.returns-clause-value
returns-clause-value c = c.collection.ensures ∙ selection_is c.args.kind c.args.items.now _ c.args.flags.now c.requires.source c.in_ok-copy_selected.ensures

pub returns-clause-well_made : goal.returns-clause-well_made
returns-clause-well_made c =
    subst IsWellMade (sym c.collection.ensures) (selection_well c.args.kind c.args.items.now _ c.args.flags.now c.requires.source c.in_ok-copy_selected.ensures)
