use Rattle.std.proofs.Common.{sym}
use Rattle.object_store.proofs.Pages.{empty_set}
use Rattle.object_store.proofs.number_map.clear_cell.Goals as goal

pub returns-in-None-clause-cells : goal.returns-in-None-clause-cells
returns-in-None-clause-cells g c = rw c.in-None.is (sym (empty_set 64 c.args.cell))
