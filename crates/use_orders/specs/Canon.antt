-- Lists in order, with and without repeats, as insertion of each element makes them.
use Rattle.std.specs.Prelude.{ℕ, Bool, true, cond, not, ◌&&◌, List, [], ◌∷◌, ◌++◌, filter, map, fold, count_by}
use Rattle.std.specs.List.{list_any, list_all, zip}
use Rattle.std.specs.declared.cmp.Ordering.{Ordering}
use Rattle.std.specs.Ordering.{is_lt, is_eq, match_ordering}

module _ {K : Type 0} (cmp : K → K → Ordering) where
  -- x put at its place, before what ties with it
  abbrev pub insert_in : List K → K → List K
  insert_in [] x = x ∷ []
  insert_in (y ∷ ys) x = cond (is_lt (cmp y x)) (y ∷ insert_in ys x) (x ∷ y ∷ ys)

  -- x put at its place, unless it is there
  abbrev pub insert_new : List K → K → List K
  insert_new [] x = x ∷ []
  insert_new (y ∷ ys) x = match_ordering (cmp x y) (x ∷ y ∷ ys) (y ∷ ys) (y ∷ insert_new ys x)

  -- the elements in order; those that tie stay as they stood
  abbrev pub bag_of : List K → List K
  bag_of [] = []
  bag_of (x ∷ xs) = insert_in (bag_of xs) x

  -- the elements in order, without repeats
  abbrev pub set_of : List K → List K
  set_of [] = []
  set_of (x ∷ xs) = insert_new (set_of xs) x

  -- whether x is there
  abbrev pub has : List K → K → Bool
  has xs x = list_any (λ y. is_eq (cmp x y)) xs

  -- whether all of some things are there
  abbrev pub has_all : List K → List K → Bool
  has_all xs ys = list_all (λ y. has xs y) ys

  -- whether none of some things is there
  abbrev pub has_none : List K → List K → Bool
  has_none xs ys = list_all (λ y. not (has xs y)) ys

  -- whether no two elements tie
  abbrev pub all_differ : List K → Bool
  all_differ [] = true
  all_differ (x ∷ xs) = not (has xs x) && all_differ xs

  -- how often x is there
  abbrev pub times : List K → K → ℕ
  times xs x = count_by (λ y. is_eq (cmp x y)) xs

  -- x at the end, unless it is there
  abbrev pub add_new : List K → K → List K
  add_new xs x = cond (has xs x) xs (xs ++ x ∷ [])

  -- each element at its first place
  abbrev pub firsts_of : List K → List K
  firsts_of xs = fold add_new [] xs

  -- the elements that are not in another list
  abbrev pub without : List K → List K → List K
  without xs ys = filter (λ x. not (has ys x)) xs

  -- the elements that are in another list
  abbrev pub within : List K → List K → List K
  within xs ys = filter (λ x. has ys x) xs

  -- the elements but the first that ties with x
  abbrev pub without_one : List K → K → List K
  without_one [] x = []
  without_one (y ∷ ys) x = cond (is_eq (cmp x y)) ys (y ∷ without_one ys x)

  -- the elements that another list has too, each as often as the list that has fewer of it
  abbrev pub common_of : List K → List K → List K
  common_of [] ys = []
  common_of (x ∷ xs) ys = cond (has ys x) (x ∷ common_of xs (without_one ys x)) (common_of xs ys)

-- the items in the order of the keys that stand beside them; items whose keys tie stay in their order
abbrev pub sorted_by_keys : {K X : Type 0} → (K → K → Ordering) → List X → List K → List X
sorted_by_keys cmp items keys = map (λ pair. pair.1) (bag_of (λ a b. cmp a.0 b.0) (zip keys items))

-- the elements beside which true stands
abbrev pub selected : {X : Type 0} → List X → List Bool → List X
selected [] flags = []
selected (x ∷ xs) [] = []
selected (x ∷ xs) (flag ∷ flags) = cond flag (x ∷ selected xs flags) (selected xs flags)
