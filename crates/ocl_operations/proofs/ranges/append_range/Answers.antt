use Rattle.std.proofs.Common.{to_z, of_z}
use Rattle.std.specs.Int.{w128}
use Rattle.ocl_operations.proofs.Numbers.{numbers_well}
use Rattle.ocl_operations.proofs.ranges.append_range.Goals as goal

pub returns-in_ok-append_numbers-in-Int-Int-clause-well_made : goal.returns-in_ok-append_numbers-in-Int-Int-clause-well_made
returns-in_ok-append_numbers-in-Int-Int-clause-well_made c =
    numbers_well c.args.out.now.items _ (to_z w128 (of_z w128 c.in-Int-Int.a)) (to_z w128
    (of_z w128 c.in-Int-Int.b)) c.in_ok-append_numbers-in-Int-Int.ensures c.requires.well
