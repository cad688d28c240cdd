use Rattle.undo_log.proofs.Whole.{command_times, command_whole}
use Rattle.undo_log.proofs.laws.a_command_leads_on.Goals as goal

pub returns : goal.returns
returns c =
    λ l h m e s t fs hs new whole led. (
      command_whole l s t fs hs h m e new whole led,
      command_times l s t fs hs h m e new led,
    )
