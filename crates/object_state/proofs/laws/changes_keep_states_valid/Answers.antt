use Rattle.object_state.proofs.Kept.{stays_valid}
use Rattle.object_state.proofs.laws.changes_keep_states_valid.Goals as goal

pub returns : goal.returns
returns c = stays_valid
