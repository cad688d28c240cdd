use Rattle.std.proofs.Common.{◌≡◌}
use Rattle.object_state.specs.Looks.{look}
use Rattle.entry_states.specs.Overlays.{with_looks}
use Rattle.entry_states.proofs.overlay.Overlay.note.Given as goal

abbrev pub invariant-note : goal.invariant-note
invariant-note g l =
    let q = look (g.S.StateReader.held l.store).layout (g.S.StateReader.held l.store).state in
    with_looks l.self l.cell-iterator q ≡ with_looks l.fn.self l.cells q
