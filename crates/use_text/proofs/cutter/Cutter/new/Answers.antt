use Rattle.use_text.proofs.CutLemmas.{stays_ended}
use Rattle.use_text.proofs.cutter.Cutter.new.Goals as goal

pub returns-clause-stays : goal.returns-clause-stays
returns-clause-stays c = stays_ended
