use Rattle.object_state.proofs.Hits.{has_more}
use Rattle.object_state.proofs.laws.sets_have_what_they_are_given.Goals as goal

pub returns : goal.returns
returns c = has_more
