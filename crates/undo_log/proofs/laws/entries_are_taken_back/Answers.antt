use Rattle.undo_log.proofs.Stepped.{takes_back}
use Rattle.undo_log.proofs.laws.entries_are_taken_back.Goals as goal

pub returns : goal.returns
returns c = λ l s fs gs e v goes noted. takes_back l s fs gs e v goes noted
