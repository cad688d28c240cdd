use Rattle.std.proofs.Common.{◌∙◌, ap}
use Rattle.entry_states.specs.Overlays.{merged}
use Rattle.entry_states.proofs.InOrder.{merged_alone}
use Rattle.entry_states.proofs.overlay.Overlay.try_copy.Goals as goal

pub returns : goal.returns
returns c =
    c.in_ok-merge_copy_into.ensures.merged ∙ ap (λ s. merged s c.args.self.now) c.new-copy.ensures ∙ merged_alone c.args.self.now c.in_ok-merge_copy_into.ensures.ordered
