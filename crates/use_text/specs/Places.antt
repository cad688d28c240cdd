-- Lines and columns.
use Rattle.std.specs.Prelude.{ℕ, ◌+◌, ◌==◌, ◌≤◌, if◌then◌else◌, List, ◌++◌, fold, codes}
use Rattle.std.specs.Fmt.{decimal}
use Rattle.use_text.specs.declared.place.Place.{Place}

abbrev pub place_at : ℕ → ℕ → Place
place_at line col = record { line = line; col = col }

-- `LINE:COLUMN`
abbrev pub place_text : Place → List ℕ
place_text p = decimal p.line ++ codes ":" ++ decimal p.col

-- the place behind a byte that stands at a place
abbrev pub behind : Place → ℕ → Place
behind p b = if b == 10 then place_at (p.line + 1) 1 else place_at p.line (p.col + 1)

-- the place behind bytes that begin at a place
abbrev pub behind_all : Place → List ℕ → Place
behind_all p bytes = fold behind p bytes

-- at most so many lines and columns further
pub record IsAdvanced (from to : Place) (count : ℕ) : Type 0 where
  pub line : to.line ≤ from.line + count
  pub col : to.col ≤ from.col + count
