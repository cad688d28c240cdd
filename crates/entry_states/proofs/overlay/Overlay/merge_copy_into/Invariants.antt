use Rattle.std.proofs.Common.{◌≡◌, map}
use Rattle.entry_states.specs.Overlays.{merged}
use Rattle.entry_states.proofs.overlay.Overlay.merge_copy_into.Given as goal

abbrev pub invariant-merge : goal.invariant-merge
invariant-merge l = l.parent ≡ merged l.fn.parent (map (λ p. (p.0.now, p.1.now)) l.yielded)
