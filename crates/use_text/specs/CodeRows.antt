-- The rows of the program's tables of texts. Only proofs use these words.
use Rattle.std.specs.Prelude.{ℕ, List, map}

-- numbers with their texts
abbrev pub rows_of : {A : Type 0} → List (ℕ × A) → (A → List ℕ) → List (ℕ × List ℕ)
rows_of rows text = map (λ row. (row.0, text row.1)) rows
