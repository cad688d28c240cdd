-- What leads to what in a graph, by one step or more. A graph lists, for each place, the places next to it.
use Rattle.std.specs.Prelude.{◌≡◌, ℕ, ◌<◌, List, [], ◌∷◌, length, Option, Some, None, Bool, false, slice_get, ◌⊎◌}

abbrev pub IsIn : ℕ → List ℕ → Type 0
IsIn q [] = ⊥
IsIn q (x ∷ xs) = (q ≡ x) ⊎ IsIn q xs

abbrev pub places_of : Option (List ℕ) → List ℕ
places_of None = []
places_of (Some row) = row

abbrev pub next : List (List ℕ) → ℕ → List ℕ
next graph p = places_of (slice_get graph p)

-- p leads to a place of the graph
pub data Path (graph : List (List ℕ)) (p : ℕ) : ℕ → Type 0 where
  first : (q : ℕ) → IsIn q (next graph p) → q < length graph → Path graph p q
  then : (q r : ℕ) → Path graph p q → IsIn r (next graph q) → r < length graph → Path graph p r

abbrev pub mark_of : Option Bool → Bool
mark_of None = false
mark_of (Some b) = b

abbrev pub is_marked : List Bool → ℕ → Bool
is_marked seen q = mark_of (slice_get seen q)
