use Rattle.undo_log.proofs.Stepped.{carries_out}
use Rattle.undo_log.proofs.laws.entries_are_carried_out_again.Goals as goal

pub returns : goal.returns
returns c = λ l s fs gs e v goes noted. carries_out l s fs gs e v goes noted
