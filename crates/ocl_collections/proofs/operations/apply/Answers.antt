use Rattle.ocl_values.proofs.WellMade.{well_result}
use Rattle.ocl_collections.proofs.Rising.{inner}
use Rattle.ocl_collections.proofs.Sound.{well_given}
use Rattle.ocl_collections.proofs.operations.apply.Goals as goal

pub of_collection-requires-clause-source : goal.of_collection-requires-clause-source
of_collection-requires-clause-source c =
    inner c.args.source.now c.in-Coll.kind c.in-Coll.items c.as_slice.result.now c.requires.source c.in-Coll.is c.as_slice.ensures

pub returns-in-Coll-clause-well_made : goal.returns-in-Coll-clause-well_made
returns-in-Coll-clause-well_made c =
    let well = inner c.args.source.now c.in-Coll.kind c.in-Coll.items c.as_slice.result.now c.requires.source c.in-Coll.is c.as_slice.ensures in
    well_result c.of_collection.result _ (well_given c.args.op c.args.args.now c.in-Coll.kind c.as_slice.result.now well c.requires.arguments)
    c.of_collection.ensures
