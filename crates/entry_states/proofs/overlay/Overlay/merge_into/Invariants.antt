use Rattle.std.proofs.Common.{◌≡◌}
use Rattle.entry_states.specs.Overlays.{merged}
use Rattle.entry_states.proofs.overlay.Overlay.merge_into.Given as goal

abbrev pub invariant-merge : goal.invariant-merge
invariant-merge l = l.parent ≡ merged l.fn.parent l.yielded
