use Rattle.std.proofs.Common.{◌≡◌, ◌<◌, ℕ, [], ◌∷◌, if◌then◌else◌, drop, length, slice_get, Some}
use Rattle.grammar_core.specs.Derives.{begins}
use Rattle.grammar_core.proofs.choices.set_all.Given as goal

abbrev pub invariant-kinds : goal.invariant-kinds
invariant-kinds l = record {
  long : length l.cells.items ≡ length l.fn.cells.items;
  set : (k : ℕ) → k < length l.fn.cells.items → (if begins (k ∷ []) 0 (drop l.kind-index l.firsts) then Some (Some l.to) else slice_get l.cells.items k) ≡
      (if begins (k ∷ []) 0 l.firsts then Some (Some l.to) else slice_get l.fn.cells.items k);
}
