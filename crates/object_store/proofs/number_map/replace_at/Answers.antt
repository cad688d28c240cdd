use Rattle.std.proofs.Common.{sym, ap, ◌∙◌, is_some, slice_get, true≢false}
use Rattle.object_store.specs.Cells.{cell_in}
use Rattle.object_store.specs.Pages.{page_cells}
use Rattle.object_store.proofs.Pages.{no_value}
use Rattle.object_store.proofs.number_map.replace_at.Goals as goal

pub unreachable-requires : goal.unreachable-requires
unreachable-requires g c =
    true≢false (sym c.requires.there ∙ ap (λ p. is_some (cell_in (slice_get (page_cells p) c.args.cell))) c.in-None.is ∙ ap is_some (no_value c.args.cell))
