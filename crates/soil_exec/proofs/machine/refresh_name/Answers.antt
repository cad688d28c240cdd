use Rattle.std.proofs.Common.{sym, subst}
use Rattle.ocl_values.specs.Shape.{IsWellMade}
use Rattle.soil_exec.proofs.Names.{well_named}
use Rattle.soil_exec.proofs.machine.refresh_name.Goals as goal

pub set-requires-clause-well_made : goal.set-requires-clause-well_made
set-requires-clause-well_made c =
    subst IsWellMade (sym c.in_ok-shell_value-in-Some.ensures) (well_named c.args.store.now.layout c.args.store.now.state c.args.name.now c.state_is_valid.ensures)
