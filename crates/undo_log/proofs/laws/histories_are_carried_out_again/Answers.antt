use Rattle.undo_log.proofs.Whole.{redo_times, redo_whole}
use Rattle.undo_log.proofs.laws.histories_are_carried_out_again.Goals as goal

pub returns : goal.returns
returns c =
    λ l h k m e kept s t fs hs old new whole same there led. (
      redo_whole l s t fs hs h k m e kept old new whole there led,
      redo_times l s t fs hs h k m e kept old new same there led,
    )
