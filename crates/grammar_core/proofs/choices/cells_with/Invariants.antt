use Rattle.std.proofs.Common.{◌≡◌, ◌<◌, ℕ, length, slice_get, Some}
use Rattle.grammar_core.proofs.choices.cells_with.Given as goal

abbrev pub invariant-cells : goal.invariant-cells
invariant-cells l = (k : ℕ) → k < length l.cells.items → slice_get l.cells.items k ≡ Some l.to
