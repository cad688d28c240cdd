-- What was made of the front of a list, and what the rest gives.
use Rattle.std.proofs.Common.{◌≡◌, List, [], ◌∷◌, ◌++◌, Option, Some, None, ap, append_assoc, append-nil}
use Rattle.std.specs.List.{cons_option, filter_map}

some_step : {B : Type 0} (found : List B) (o : Option B) (rest : List B) → (found ++ cons_option o []) ++ rest ≡ found ++ cons_option o rest
some_step found None rest = ap (λ l. l ++ rest) (append-nil found)
some_step found (Some x) rest = append_assoc found (x ∷ []) rest

pub filter_map_step : {A B : Type 0} (f : A → Option B) (found : List B) (x : A) (xs : List A) →
    (found ++ cons_option (f x) []) ++ filter_map f xs ≡ found ++ filter_map f (x ∷ xs)
filter_map_step f found x xs = some_step found (f x) (filter_map f xs)

-- two things more, of which each may be left out
pub two_more : {B : Type 0} (found : List B) (a b : Option B) → (found ++ cons_option a []) ++ cons_option b [] ≡ found ++ cons_option a (cons_option b [])
two_more found a b = some_step found a (cons_option b [])
