-- Values in cells that are numbered from some number on.
use Rattle.std.specs.Prelude.{ℕ, ◌+◌, List, [], ◌∷◌, Option, Some, None}

-- the entries of the cells that hold a value, by number
abbrev pub entries : {X : Type 0} → ℕ → List (Option X) → List (ℕ × X)
entries n [] = []
entries n (None ∷ cells) = entries (n + 1) cells
entries n (Some x ∷ cells) = (n, x) ∷ entries (n + 1) cells

-- the value of a cell that may be there
abbrev pub cell_in : {X : Type 0} → Option (Option X) → Option X
cell_in None = None
cell_in (Some c) = c

-- the values, in the order of the cells
abbrev pub values_in : {X : Type 0} → List (Option X) → List X
values_in [] = []
values_in (None ∷ cells) = values_in cells
values_in (Some x ∷ cells) = x ∷ values_in cells
