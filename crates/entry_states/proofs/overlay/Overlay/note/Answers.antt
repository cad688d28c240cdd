use Rattle.object_state.specs.Looks.{look}
use Rattle.entry_states.proofs.Lays.{looks_done, looks_next}
use Rattle.entry_states.proofs.overlay.Overlay.note.Goals as goal

pub note-preserved : goal.note-preserved
note-preserved g c =
    let d = g.S.StateReader.held c.args.store.now in
    looks_next c.args.cells.now c.note.cell-iterator c.next.new.self c.in-Some.cell.now (look d.layout d.state) c.args.self.now c.note.self c.note_cell.new.self
    c.in-Some.ensures.steps c.in_ok-note_cell.ensures c.note.invariant

pub returns : goal.returns
returns g c =
    let d = g.S.StateReader.held c.args.store.now in
    looks_done c.args.cells.now c.note.cell-iterator (look d.layout d.state) c.args.self.now c.note.self c.in-None.ensures.steps.0 c.note.invariant
