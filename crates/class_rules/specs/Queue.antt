-- Which classes may get the next number, as the numbering keeps it.
use Rattle.std.specs.Prelude.{◌≡◌, ◌⊎◌, ℕ, Bool, true, false, List, length, take, slice_index_or}
use Rattle.std.specs.List.{list_all}
use Rattle.class_rules.specs.Numbering.{is_among, row_at}
use Rattle.class_rules.specs.Ready.{ReadyPlaces, is_ready}

-- whether a class has a number, or is none of those that are considered
abbrev pub has_number : List Bool → ℕ → Bool
has_number done i = slice_index_or done i true

-- a class waits for one of its parents that has no number
pub record IsWaiting (parents : List (List ℕ)) (done : List Bool) (waiting : List (List ℕ)) (i : ℕ) : Type 0 where
  pub parent : ℕ
  pub unnumbered : has_number done parent ≡ false
  pub parented : is_among (row_at parents i) parent ≡ true
  pub listed : is_among (row_at waiting parent) i ≡ true

-- each class without a number is ready to be looked at, or waits for a parent; so many first parents of each class have one
pub record IsQueued (parents : List (List ℕ)) (done : List Bool) (passed : List ℕ) (waiting : List (List ℕ)) (ready : ReadyPlaces) : Type 0 where
  pub flags : length done ≡ length parents
  pub counts : length passed ≡ length parents
  pub lists : length waiting ≡ length parents
  pub each : (i : ℕ) → has_number done i ≡ false → (is_ready ready i ≡ true) ⊎ IsWaiting parents done waiting i
  pub numbered : (i : ℕ) → list_all (has_number done) (take (slice_index_or passed i 0) (row_at parents i)) ≡ true
