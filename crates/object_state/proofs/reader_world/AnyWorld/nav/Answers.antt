use Rattle.std.proofs.Common.{ap, sym, subst}
use Rattle.object_state.specs.declared.cell.Cell.TheVariants.{Nav}
use Rattle.object_state.specs.declared.cell.Look.{Look}
use Rattle.object_state.specs.Looks.{IsWellMadeLook, items_look}
use Rattle.object_state.proofs.Seen.{well}
use Rattle.object_state.proofs.reader_world.AnyWorld.nav.Goals as goal

pub returns-clause-well_made : goal.returns-clause-well_made
returns-clause-well_made g c =
    let d = g.S.StateReader.held c.args.self.now in
    subst (λ (x : Look). IsWellMadeLook x) (sym (ap items_look c.in_ok-items.ensures))
    (well d.layout d.state (Nav c.args.assoc c.args.end c.args.object) c.state_is_valid.ensures)
