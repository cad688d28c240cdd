use Rattle.std.proofs.Common.{◌∷◌, ap, ◌∙◌}
use Rattle.entry_states.specs.Frames.{entered}
use Rattle.contract_frames.specs.Judging.{picture}
use Rattle.contract_frames.proofs.moves.enter.Goals as goal

pub returns-clause-keeps : goal.returns-clause-keeps
returns-clause-keeps g c =
    ap (λ fs. entered fs (picture c.args.store.now))
    (c.in_ok-push.ensures.ok ∙ (λ i. record { call = c.args.call; overlay = c.new-overlay.ensures i } ∷ c.args.frames.now))
