use Rattle.std.proofs.Common.{◌≡◌, ◌+◌, ◌++◌, length}
use Rattle.std.specs.Map.{keys_of}
use Rattle.object_store.specs.Cells.{entries}
use Rattle.object_store.proofs.page.Page.add_numbers.Given as goal

abbrev pub invariant-cells : goal.invariant-cells
invariant-cells g l = record {
  same : l.found.items ++ keys_of (entries l.number l.rest) ≡ l.fn.found.items ++ keys_of (entries l.fn.first l.fn.self);
  few : l.number + length l.rest ≡ l.fn.first + length l.fn.self;
}

abbrev pub decreases-cells : goal.decreases-cells
decreases-cells g l = length l.rest
