use Rattle.std.proofs.Common.{◌≡◌, ◌++◌}
use Rattle.object_store.specs.Pages.{empty_cells}
use Rattle.object_store.proofs.page.no_cells.Given as goal

abbrev pub invariant-cells : goal.invariant-cells
invariant-cells g l = l.cells.items ++ empty_cells l.left ≡ empty_cells 64

abbrev pub decreases-cells : goal.decreases-cells
decreases-cells g l = l.left
