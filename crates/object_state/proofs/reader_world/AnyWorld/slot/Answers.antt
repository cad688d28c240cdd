use Rattle.std.proofs.Common.{ap, sym, subst}
use Rattle.object_state.specs.declared.cell.Cell.TheVariants.{Slot}
use Rattle.object_state.specs.declared.cell.Look.{Look}
use Rattle.object_state.specs.Looks.{IsWellMadeLook, value_look}
use Rattle.object_state.proofs.Seen.{well}
use Rattle.object_state.proofs.reader_world.AnyWorld.slot.Goals as goal

pub returns-clause-well_made : goal.returns-clause-well_made
returns-clause-well_made g c =
    let d = g.S.StateReader.held c.args.self.now in
    subst (λ (x : Look). IsWellMadeLook x) (sym (ap value_look c.in_ok-value.ensures))
    (well d.layout d.state (Slot c.args.object c.args.attr) c.state_is_valid.ensures)
