-- What the walks of this crate say of themselves; no definition of a result rests on it.
use Rattle.std.specs.Prelude.{◌≡◌, ℕ, Bool, true, false, not, List, ◌++◌, ◌+◌, ◌<◌, ◌≤◌, drop, take, length, slice_index_or}
use Rattle.std.specs.declared.cmp.Ordering.{Ordering}
use Rattle.use_orders.specs.Canon.{has, set_of, without}

-- one step of what walks two lists together: it took from a or b, and what is out and what comes of the rest stay the same list
pub record Progress {K : Type 0} (walk : List K → List K → List K) (a b : List K) (i j : ℕ) (out : List K) (i' j' : ℕ) (out' : List K) : Type 0 where
  pub same : out' ++ walk (drop i' a) (drop j' b) ≡ out ++ walk (drop i a) (drop j b)
  pub further : i + j < i' + j'
  pub in_a : i' ≤ length a
  pub in_b : j' ≤ length b

module _ {K : Type 0} (cmp : K → K → Ordering) where
  -- what is in one of two lists and not in the other, in order
  abbrev pub apart : List K → List K → List K
  apart xs ys = set_of cmp (without cmp xs ys ++ without cmp ys xs)

  -- whether the element at k is at its first place
  abbrev pub is_first : List K → ℕ → K → Bool
  is_first xs k x = not (has cmp (take k xs) x)

  -- of each element, whether it is at its first place
  abbrev pub AreFirst : List K → List Bool → Type 0
  AreFirst xs flags = (k : ℕ) (d : K) → k < length xs → slice_index_or flags k true ≡ is_first xs k (slice_index_or xs k d)

-- what a test answers, or the contrary
abbrev pub answers : Bool → Bool → Bool
answers true b = b
answers false b = not b
