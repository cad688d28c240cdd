use Rattle.std.proofs.Common.{sym, subst}
use Rattle.entry_states.specs.Overlays.{CanBeHeld}
use Rattle.entry_states.proofs.Held.{held_more}
use Rattle.entry_states.proofs.overlay.Overlay.save.Goals as goal

pub invariant_of-self-in_ok-insert-6 : goal.invariant_of-self-in_ok-insert-6
invariant_of-self-in_ok-insert-6 c =
    subst CanBeHeld (sym c.in_ok-insert.ensures.entries) (held_more c.self.inside.looks.entries c.args.cell c.args.old c.self.invariant c.requires)
