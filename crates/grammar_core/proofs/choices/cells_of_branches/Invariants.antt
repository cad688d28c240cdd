use Rattle.std.proofs.Common.{◌≡◌, ◌<◌, ◌≤◌, ℕ, [], ◌∷◌, drop, length, slice_get, Some}
use Rattle.grammar_core.specs.Derives.{branch_of}
use Rattle.grammar_core.proofs.choices.cells_of_branches.Given as goal

abbrev pub invariant-branches : goal.invariant-branches
invariant-branches l = record {
  few : l.i ≤ length l.branches;
  told : (k : ℕ) → k < length l.cells.items → slice_get l.cells.items k ≡ Some (branch_of (k ∷ []) 0 (drop l.i l.branches) l.fn.other);
}

abbrev pub decreases-branches : goal.decreases-branches
decreases-branches l = l.i
