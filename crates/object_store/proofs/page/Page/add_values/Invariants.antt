use Rattle.std.proofs.Common.{◌≡◌, ◌++◌, length}
use Rattle.object_store.specs.Cells.{values_in}
use Rattle.object_store.proofs.page.Page.add_values.Given as goal

abbrev pub invariant-cells : goal.invariant-cells
invariant-cells g l = l.found.items ++ values_in l.rest ≡ l.fn.found.items ++ values_in l.fn.self

abbrev pub decreases-cells : goal.decreases-cells
decreases-cells g l = length l.rest
