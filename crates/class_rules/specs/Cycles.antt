-- What a cycle of inheritance is, beside how it is found.
use Rattle.std.specs.Prelude.{◌≡◌, ◌<◌, ℕ, zero, suc, Bool, true, not, ◌&&◌, nat_lt, List, [], ◌∷◌, filter, length}
use Rattle.std.specs.List.{list_all, list_any}
use Rattle.class_rules.specs.Numbering.{is_among, numbering, row_at}

-- the places of so many classes
abbrev pub places_of : ℕ → List ℕ
places_of zero = []
places_of (suc n) = n ∷ places_of n

-- those of them that are not among some
abbrev pub places_without : List ℕ → ℕ → List ℕ
places_without done n = filter (λ i. not (is_among done i)) (places_of n)

-- the classes that have no number
abbrev pub unnumbered : List (List ℕ) → List ℕ
unnumbered parents = places_without (numbering parents) (length parents)

-- each of some classes has a parent among them
abbrev pub have_parents_within : List (List ℕ) → List ℕ → Bool
have_parents_within parents cs = list_all (λ c. nat_lt c (length parents) && list_any (is_among cs) (row_at parents c)) cs

-- some classes, each of which has a parent among them: from parent to parent one comes back
pub record GoRound (parents : List (List ℕ)) (cs : List ℕ) : Type 0 where
  pub some : 0 < length cs
  pub each : have_parents_within parents cs ≡ true

-- every class has one number: there are as many numbers as classes, and each class has one
pub record NumbersEach (order : List ℕ) (count : ℕ) : Type 0 where
  pub as_many : length order ≡ count
  pub each : (i : ℕ) → i < count → is_among order i ≡ true
