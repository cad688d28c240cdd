use Rattle.std.proofs.Common.{◌∙◌, ap, ◌++◌, ◌-◌}
use Rattle.object_store.specs.Pages.{empty_cells}
use Rattle.object_store.proofs.Pages.{one_less}
use Rattle.object_store.proofs.page.no_cells.Goals as goal

pub cells-preserved : goal.cells-preserved
cells-preserved g c =
    ap (λ cells. cells ++ empty_cells (c.cells.left - 1)) c.in_ok-push.ensures.items
    ∙ one_less c.cells.cells.items c.cells.left c.cells-test.true ∙ c.cells.invariant
