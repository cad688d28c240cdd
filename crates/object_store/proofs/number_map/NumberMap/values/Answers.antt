use Rattle.std.proofs.Common.{◌∙◌, ap}
use Rattle.object_store.specs.Cells.{values_in}
use Rattle.object_store.specs.Pages.{all_cells}
use Rattle.object_store.proofs.Changed.{if_ok}
use Rattle.object_store.proofs.Pages.{entry_values}
use Rattle.object_store.proofs.number_map.NumberMap.values.Goals as goal

pub returns : goal.returns
returns g c =
    rw (← c.self.view_is) (if_ok c.all_values.result (λ v e. e ∙ ap (λ pages. values_in (all_cells pages)) c.as_slice.ensures.value ∙ entry_values 0 (all_cells c.self.inside.pages.items)) c.all_values.ensures)
