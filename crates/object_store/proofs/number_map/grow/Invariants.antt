use Rattle.std.proofs.Common.{◌≡◌, ◌+◌, ◌-◌, ◌≤◌, ◌^◌, length}
use Rattle.object_store.specs.Cells.{entries}
use Rattle.object_store.specs.Pages.{AreWhole, all_cells}
use Rattle.object_store.proofs.number_map.grow.Given as goal

abbrev pub invariant-grow : goal.invariant-grow
invariant-grow g l = record {
  same : entries 0 (all_cells l.pages.items) ≡ entries 0 (all_cells l.fn.pages.items);
  long : length l.pages.items ≤ 2 ^ 26;
  whole : AreWhole l.pages.items;
}

abbrev pub decreases-grow : goal.decreases-grow
decreases-grow g l = (l.page + 1) - length l.pages.items
