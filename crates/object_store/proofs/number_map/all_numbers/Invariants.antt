use Rattle.std.proofs.Common.{◌≡◌, ◌-◌, ◌*◌, ◌≤◌, ◌++◌, drop, length}
use Rattle.std.specs.Map.{keys_of}
use Rattle.object_store.specs.Cells.{entries}
use Rattle.object_store.specs.Pages.{AreWhole, all_cells}
use Rattle.object_store.proofs.number_map.all_numbers.Given as goal

abbrev pub invariant-pages : goal.invariant-pages
invariant-pages g l = record {
  same : l.found.items ++ keys_of (entries (l.page * 64) (all_cells (drop l.page l.pages))) ≡ keys_of (entries 0 (all_cells l.fn.pages));
  whole : AreWhole (drop l.page l.pages);
  within : l.page ≤ length l.pages;
}

abbrev pub decreases-pages : goal.decreases-pages
decreases-pages g l = length l.pages - l.page
