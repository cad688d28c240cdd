-- The places of classes that are to be looked at.
use Rattle.std.specs.Prelude.{ℕ, ◌+◌, ◌-◌, Bool, not, ◌||◌, nat_lt, List, length, slice_get, unwrap_or}
use Rattle.class_rules.specs.Numbering.{is_among}

-- all places from `next` on, and those before it that are to be looked at again
pub record ReadyPlaces : Type 0 where
  pub again : List ℕ
  pub next : ℕ

abbrev pub is_ready : ReadyPlaces → ℕ → Bool
is_ready r i = is_among r.again i || not (nat_lt i r.next)

-- the least of them
abbrev pub first_ready : ReadyPlaces → ℕ
first_ready r = unwrap_or (slice_get r.again 0) r.next

-- no more than so many of them stand before another place
abbrev pub ready_before : ℕ → ReadyPlaces → ℕ
ready_before n r = length r.again + (n - r.next)
