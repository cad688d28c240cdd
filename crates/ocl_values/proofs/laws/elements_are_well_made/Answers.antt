use Rattle.ocl_values.proofs.Elements.{each_well, elements_well, no_invalid}
use Rattle.ocl_values.proofs.laws.elements_are_well_made.Goals as goal

pub returns-clause-listed : goal.returns-clause-listed
returns-clause-listed c = each_well

pub returns-clause-of_value : goal.returns-clause-of_value
returns-clause-of_value c = elements_well

pub returns-clause-valid : goal.returns-clause-valid
returns-clause-valid c = no_invalid
