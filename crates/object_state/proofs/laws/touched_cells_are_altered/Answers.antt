use Rattle.object_state.proofs.Altered.{alters}
use Rattle.object_state.proofs.laws.touched_cells_are_altered.Goals as goal

pub returns : goal.returns
returns c = alters
