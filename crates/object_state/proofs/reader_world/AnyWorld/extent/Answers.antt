use Rattle.std.proofs.Common.{ap, sym, subst}
use Rattle.object_state.specs.declared.cell.Cell.TheVariants.{Extent}
use Rattle.object_state.specs.declared.cell.Look.{Look}
use Rattle.object_state.specs.declared.cell.Look.TheVariants as look
use Rattle.object_state.specs.Looks.{IsWellMadeLook}
use Rattle.object_state.proofs.Seen.{well}
use Rattle.object_state.proofs.reader_world.AnyWorld.extent.Goals as goal

pub returns-clause-well_made : goal.returns-clause-well_made
returns-clause-well_made g c =
    let d = g.S.StateReader.held c.args.self.now in
    subst (λ (x : Look). IsWellMadeLook x) (sym (ap (λ vs. look.Items vs) c.in_ok-items.ensures))
    (well d.layout d.state (Extent c.args.class) c.state_is_valid.ensures)
