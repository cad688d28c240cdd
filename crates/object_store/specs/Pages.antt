-- Cells in pages of 64, where a page without values may be left out.
use Rattle.std.specs.Prelude.{◌≡◌, ◌≤◌, ◌^◌, ⊤, length, ℕ, zero, suc, List, [], ◌∷◌, ◌++◌, Option, Some, None}
use Rattle.object_store.specs.Cells.{entries}

abbrev pub empty_cells : {X : Type 0} → ℕ → List (Option X)
empty_cells zero = []
empty_cells (suc n) = None ∷ empty_cells n

abbrev pub page_cells : {X : Type 0} → Option (List (Option X)) → List (Option X)
page_cells None = empty_cells 64
page_cells (Some cells) = cells

abbrev pub all_cells : {X : Type 0} → List (Option (List (Option X))) → List (Option X)
all_cells [] = []
all_cells (p ∷ ps) = page_cells p ++ all_cells ps

-- each page has 64 cells
abbrev pub AreWhole : {X : Type 0} → List (Option (List (Option X))) → Type 0
AreWhole [] = ⊤
AreWhole (p ∷ ps) = (length (page_cells p) ≡ 64) × AreWhole ps

-- whole pages, how many values there are in them, and no number is too large
pub record ArePaged {X : Type 0} (pages : List (Option (List (Option X)))) (count : ℕ) : Type 0 where
  pub whole : AreWhole pages
  pub counted : count ≡ length (entries 0 (all_cells pages))
  pub few : length pages ≤ 2 ^ 26

-- 64 cells, and how many values there are in them
pub record IsPage {X : Type 0} (cells : List (Option X)) (count : ℕ) : Type 0 where
  pub long : length cells ≡ 64
  pub counted : count ≡ length (entries 0 cells)
