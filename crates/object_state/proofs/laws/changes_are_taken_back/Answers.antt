use Rattle.object_state.proofs.Back.{taken_back}
use Rattle.object_state.proofs.Refit.{fits_back}
use Rattle.object_state.proofs.laws.changes_are_taken_back.Goals as goal

pub returns-clause-back : goal.returns-clause-back
returns-clause-back c = taken_back

pub returns-clause-fits : goal.returns-clause-fits
returns-clause-fits c = fits_back
