use Rattle.ocl_collections.proofs.Sound.{sorted_result}
use Rattle.ocl_collections.proofs.sorting.sort_by_keys.Goals as goal

pub returns-clause-well_made : goal.returns-clause-well_made
returns-clause-well_made c = sorted_result c.sort_by_keys.result (λ v. v.items) c.args.items.items c.args.keys.items c.requires.well c.sort_by_keys.ensures
