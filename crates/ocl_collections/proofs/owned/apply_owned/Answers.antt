use Rattle.ocl_values.proofs.WellMade.{well_result}
use Rattle.ocl_collections.proofs.Rising.{inner}
use Rattle.ocl_collections.proofs.Sound.{well_given}
use Rattle.ocl_collections.proofs.owned.apply_owned.Goals as goal

pub returns-in-Coll-clause-well_made : goal.returns-in-Coll-clause-well_made
returns-in-Coll-clause-well_made c =
    let well = inner c.args.source c.in-Coll.kind c.in-Coll.items c.into_vec.result.items c.requires.source c.in-Coll.is c.into_vec.ensures in
    well_result c.owned_of_collection.result _ (well_given c.args.op c.args.args.now c.in-Coll.kind c.into_vec.result.items well c.requires.arguments)
    c.owned_of_collection.ensures
