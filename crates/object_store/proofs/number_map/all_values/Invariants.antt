use Rattle.std.proofs.Common.{◌≡◌, ◌-◌, ◌≤◌, ◌++◌, drop, length}
use Rattle.object_store.specs.Cells.{values_in}
use Rattle.object_store.specs.Pages.{all_cells}
use Rattle.object_store.proofs.number_map.all_values.Given as goal

abbrev pub invariant-pages : goal.invariant-pages
invariant-pages g l = record {
  same : l.found.items ++ values_in (all_cells (drop l.page l.pages)) ≡ values_in (all_cells l.fn.pages);
  within : l.page ≤ length l.pages;
}

abbrev pub decreases-pages : goal.decreases-pages
decreases-pages g l = length l.pages - l.page
