-- Entries by two numbers, in rows of those that have the first number.
use Rattle.std.specs.Prelude.{ℕ, ◌+◌, List, [], ◌∷◌, ◌++◌, map}

-- the entries of a row
abbrev pub with_first : {X : Type 0} → ℕ → List (ℕ × X) → List ((ℕ × ℕ) × X)
with_first a es = map (λ e. ((a, e.0), e.1)) es

-- those of rows, where the first row has a number
abbrev pub pairs : {X : Type 0} → ℕ → List (List (ℕ × X)) → List ((ℕ × ℕ) × X)
pairs a [] = []
pairs a (row ∷ rows) = with_first a row ++ pairs (a + 1) rows
