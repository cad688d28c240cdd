use Rattle.undo_log.proofs.Whole.{undo_times, undo_whole}
use Rattle.undo_log.proofs.laws.histories_are_taken_back.Goals as goal

pub returns : goal.returns
returns c =
    λ l h k m e again s t fs hs old new whole led. (
      undo_whole l s t fs hs h k m e again old new whole led,
      undo_times l s t fs hs h k m e again old new led,
    )
