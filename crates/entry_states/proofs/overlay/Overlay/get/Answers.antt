use Rattle.entry_states.specs.Overlays.{saved_of}
use Rattle.entry_states.proofs.Held.{held_in, held_of}
use Rattle.entry_states.proofs.overlay.Overlay.get.Goals as goal

pub returns-clause-can_hold : goal.returns-clause-can_hold
returns-clause-can_hold c =
    held_in (λ x. x.now) c.get.result (saved_of c.self.inside.looks.entries c.args.cell.now) c.args.cell.now c.get.ensures.value
    (held_of c.self.inside.looks.entries c.args.cell.now c.self.invariant)
