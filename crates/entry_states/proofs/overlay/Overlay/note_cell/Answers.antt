use Rattle.std.proofs.Common.{sym, subst}
use Rattle.entry_states.specs.Overlays.{CanHold}
use Rattle.entry_states.proofs.Cells.{held_can_be}
use Rattle.entry_states.proofs.overlay.Overlay.note_cell.Goals as goal

pub save-requires : goal.save-requires
save-requires g c =
    let d = g.S.StateReader.held c.args.store.now in
    subst (CanHold c.args.cell.now) (sym c.in_ok-held.ensures) (held_can_be d.layout d.state c.args.cell.now c.state_is_valid.ensures)
