-- An element put at its place in a list in order, and what ties with an element taken out of one.
use Rattle.std.proofs.Common.{◌≡◌, ℕ, zero, suc, ◌+◌, ◌<◌, ◌≤◌, ◌++◌, ◌||◌, not, Bool, true, false, cond, List, [], ◌∷◌, take, drop, get_or, length, count_by}
use Rattle.std.proofs.Common.{refl, sym, ap, ap₂, ◌∙◌, subst, arith, IsSorted, Result, Ok, Err, is_ok, Ordering, Less, Greater, is_lt, is_eq, is_gt}
use Rattle.std.specs.Ordering.{ordering_reverse, is_le, match_ordering}
use Rattle.std.specs.Cmp.{IsTotalOrder}
use Rattle.std.specs.List.{AllByRecursion}
use Rattle.std.specs.List.Sorted.{IsBinarySearchResult, IsSearchInRange}
use Rattle.std.specs.FinMap.{IsAntisymmetric}
use Rattle.std.proofs.lemmas.Bool.{cond_both}
use Rattle.std.proofs.lemmas.Cmp.{upto}
use Rattle.std.proofs.lemmas.List.Folds.{list_any-append}
use Rattle.std.proofs.lemmas.List.Sums.{sum_by-append}
use Rattle.std.proofs.lemmas.List.Sorted.{searchable_from_sorted}
use Rattle.use_orders.specs.Canon.{insert_in, insert_new, bag_of, set_of, has, times, without}
use Rattle.use_orders.proofs.Bags.{Ascends, Ascends-from_sort, Ascends-insert_in, Ascends-bag_of, times-cons, times-insert_in, times-bag_of, same_bags}
use Rattle.use_orders.proofs.Bags.{all_weaker, by_rank, under, lt_down, not_under}
use Rattle.use_orders.proofs.Sets.{equal, has-insert_new, rises-insert_new}
use Rattle.use_orders.proofs.Merged.{or_false, rises, is_set, has_alike, sorted_set}
use Rattle.use_orders.proofs.Places.{covered, or_swap}
use Rattle.use_orders.proofs.Points.{one_if, counted}
use Rattle.use_orders.proofs.Found.{found_is_has}

one_more : {X : Type 0} (p : X → Bool) (x : X) (xs : List X) → p x ≡ true → count_by p (x ∷ xs) ≡ suc (count_by p xs)
one_more p x xs e =
    let one = counted p x xs in
    let is : one_if (p x) ≡ 1 = ap one_if e in
    omega (arith, one, is)

none_by : {X : Type 0} (p : X → Bool) (xs : List X) → AllByRecursion (λ y. p y ≡ false) xs → count_by p xs ≡ 0
none_by p [] h = refl
none_by p (x ∷ xs) h =
    let one = counted p x xs in
    let rest = none_by p xs h.1 in
    let none : one_if (p x) ≡ 0 = ap one_if h.0 in
    omega (arith, one, rest, none)

abbrev put : {X : Type 0} → List X → ℕ → X → List X
put xs n x = take n xs ++ x ∷ drop n xs

module _ {K : Type 0} {cmp : K → K → Ordering} (o : IsTotalOrder cmp) where
  abbrev lower : List K → K → ℕ
  lower xs x = count_by (λ y. is_lt (cmp y x)) xs

  abbrev upper : List K → K → ℕ
  upper xs x = count_by (λ y. is_le (cmp y x)) xs

  -- x is not above y, and what is behind y is not below it
  none_lower : (x y : K) (ys : List K) → is_lt (cmp y x) ≡ false → AllByRecursion (λ w. is_gt (cmp y w) ≡ false) ys
      → AllByRecursion (λ w. is_lt (cmp w x) ≡ false) (y ∷ ys)
  none_lower x y ys l up = (
    l,
    all_weaker (λ w. is_gt (cmp y w) ≡ false) (λ w. is_lt (cmp w x) ≡ false) (λ w g. ap is_lt (o.antisymm w x)
        ∙ not_under (cmp x w) (upto o x y w (ap is_gt (o.antisymm x y) ∙ lt_down (cmp y x) l) g)) ys up,
  )

  none_upper : (x y : K) (ys : List K) → cmp y x ≡ Greater → AllByRecursion (λ w. is_gt (cmp y w) ≡ false) ys
      → AllByRecursion (λ w. is_le (cmp w x) ≡ false) (y ∷ ys)
  none_upper x y ys e up =
      let l : cmp x y ≡ Less = o.antisymm x y ∙ ap ordering_reverse e in (
        ap is_le e,
        all_weaker (λ w. is_gt (cmp y w) ≡ false) (λ w. is_le (cmp w x) ≡ false) (λ w g. ap is_le (o.antisymm w x
            ∙ ap ordering_reverse (under cmp o x y w (cmp y w) refl g l))) ys up,
      )

  insert_low : (xs : List K) (x : K) → Ascends cmp xs → put xs (lower xs x) x ≡ insert_in cmp xs x
  unfolding Ascends
  insert_low [] x up = refl
  insert_low (y ∷ ys) x up =
      cond_both (is_lt (cmp y x)) (y ∷ insert_in cmp ys x) (x ∷ y ∷ ys) (λ l. put (y ∷ ys) (lower (y ∷ ys) x) x ≡ l)
      (λ l. ap (λ n. put (y ∷ ys) n x) (one_more (λ w. is_lt (cmp w x)) y ys l) ∙ ap (λ l. y ∷ l) (insert_low ys x up.1))
      (λ l. ap (λ n. put (y ∷ ys) n x) (none_by (λ w. is_lt (cmp w x)) (y ∷ ys) (none_lower x y ys l up.0)))

  times_push : (xs : List K) (x z : K) → times cmp (insert_in cmp xs x) z ≡ times cmp (xs ++ x ∷ []) z
  times_push xs x z =
      let a = times-insert_in cmp xs x z in
      let b : times cmp (xs ++ x ∷ []) z ≡ times cmp xs z + times cmp (x ∷ []) z = sum_by-append (λ y. cond (is_eq (cmp z y)) 1 0) xs (x ∷ []) in
      let c : times cmp (x ∷ []) z ≡ cond (is_eq (cmp z x)) 1 0 + 0 = times-cons cmp x [] z in
      omega (arith, a, b, c)

  -- x at its place in a list in order
  pub bag_put : IsAntisymmetric cmp → (xs : List K) (x : K) (n : ℕ) → IsSorted cmp xs → n ≡ lower xs x → put xs n x ≡ bag_of cmp (xs ++ x ∷ [])
  bag_put exact xs x n sorted at =
      let up = Ascends-from_sort cmp o xs sorted in
      ap (λ m. put xs m x) at ∙ insert_low xs x up
      ∙ same_bags cmp o exact (insert_in cmp xs x) (bag_of cmp (xs ++ x ∷ [])) (Ascends-insert_in cmp o xs x up) (Ascends-bag_of cmp o (xs ++ x ∷ []))
      (λ z. times_push xs x z ∙ sym (times-bag_of cmp (xs ++ x ∷ []) z))

  has_push : (xs : List K) (x z : K) → has cmp (xs ++ x ∷ []) z ≡ (has cmp xs z || is_eq (cmp z x))
  has_push xs x z = list_any-append (λ y. is_eq (cmp z y)) xs (x ∷ []) ∙ ap (λ b. has cmp xs z || b) (or_false (is_eq (cmp z x)))

  insert_gap : (xs : List K) (x : K) (n : ℕ) → n ≤ length xs → ((k : ℕ) (d : K) → k < n → cmp (get_or xs k d) x ≡ Less)
      → ((k : ℕ) (d : K) → n ≤ k → k < length xs → cmp (get_or xs k d) x ≡ Greater) → put xs n x ≡ insert_new cmp xs x
  insert_gap [] x zero l front behind = refl
  insert_gap [] x (suc n) l front behind = absurd (omega arith)
  insert_gap (y ∷ ys) x zero l front behind =
      sym
      (ap (λ r. match_ordering r (x ∷ y ∷ ys) (y ∷ ys) (y ∷ insert_new cmp ys x)) (o.antisymm x y
      ∙ ap ordering_reverse (behind zero x (omega arith) (omega arith))))
  insert_gap (y ∷ ys) x (suc n) l front behind =
      ap (λ l. y ∷ l) (insert_gap ys x n (omega arith) (λ k d h. front (suc k) d (omega arith)) (λ k d a b. behind (suc k) d (omega arith) (omega arith)))
      ∙ sym (ap (λ r. match_ordering r (x ∷ y ∷ ys) (y ∷ ys) (y ∷ insert_new cmp ys x)) (o.antisymm x y ∙ ap ordering_reverse (front zero x (omega arith))))

  -- what a binary search finds in a list without repeats stays as it is
  pub set_found : IsAntisymmetric cmp → (xs : List K) (x : K) (r : Result ℕ ℕ) (i : ℕ) → set_of cmp xs ≡ xs → IsSearchInRange r (length xs)
      → IsBinarySearchResult (λ y. cmp y x) xs r → r ≡ Ok i → xs ≡ set_of cmp (xs ++ x ∷ [])
  set_found exact xs x r i is inside at found =
      let there = sym (found_is_has o xs x r (sorted_set o xs is) inside at) ∙ ap is_ok found in
      is_set o exact xs (xs ++ x ∷ []) (rises o xs is)
      (λ z. covered (has cmp xs z) (is_eq (cmp z x)) (λ e. has_alike o xs z x (equal (cmp z x) e) ∙ there) ∙ sym (has_push xs x z))

  -- what it does not find goes to the place that it names
  pub set_put : IsAntisymmetric cmp → (xs : List K) (x : K) (r : Result ℕ ℕ) (i : ℕ) → set_of cmp xs ≡ xs → IsSearchInRange r (length xs)
      → IsBinarySearchResult (λ y. cmp y x) xs r → r ≡ Err i → put xs i x ≡ set_of cmp (xs ++ x ∷ [])
  set_put exact xs x r i is inside at absent =
      let within : i ≤ length xs = subst (λ s. IsSearchInRange s (length xs)) absent inside in
      let sides = subst (IsBinarySearchResult (λ y. cmp y x) xs) absent at (searchable_from_sorted o (λ a. a) xs x (sorted_set o xs is)) in
      insert_gap xs x i within (λ k d h. sides.0 k d (omega arith) h) (λ k d a b. sides.1 k d a b)
      ∙ is_set o exact (insert_new cmp xs x) (xs ++ x ∷ []) (rises-insert_new o xs x (rises o xs is))
      (λ z. has-insert_new o xs x z ∙ or_swap (is_eq (cmp z x)) (has cmp xs z) ∙ sym (has_push xs x z))

  abbrev others : List K → K → List K
  others xs x = without cmp xs (x ∷ [])

  take_out : (xs : List K) (x : K) → Ascends cmp xs → take (lower xs x) xs ++ drop (upper xs x) xs ≡ others xs x
  unfolding Ascends
  take_out [] x up = refl
  take_out (y ∷ ys) x up =
      by_rank (take (lower (y ∷ ys) x) (y ∷ ys) ++ drop (upper (y ∷ ys) x) (y ∷ ys) ≡ others (y ∷ ys) x) (cmp y x)
      (λ e. ap₂ (λ n m. take n (y ∷ ys) ++ drop m (y ∷ ys)) (one_more (λ w. is_lt (cmp w x)) y ys (ap is_lt e)) (one_more (λ w. is_le (cmp w x)) y ys
      (ap is_le e))
      ∙ ap (λ l. y ∷ l) (take_out ys x up.1) ∙ sym (ap (λ r. cond (not (is_eq r || false)) (y ∷ others ys x) (others ys x)) e))
      (λ e.
      let none = none_lower x y ys (ap is_lt e) up.0 in
      ap₂ (λ n m. take n (y ∷ ys) ++ drop m (y ∷ ys)) (none_by (λ w. is_lt (cmp w x)) (y ∷ ys) none) (one_more (λ w. is_le (cmp w x)) y ys (ap is_le e))
      ∙ sym (ap (λ n. take n ys ++ drop (upper ys x) ys) (none_by (λ w. is_lt (cmp w x)) ys none.1))
      ∙ take_out ys x up.1 ∙ sym (ap (λ r. cond (not (is_eq r || false)) (y ∷ others ys x) (others ys x)) e))
      (λ e.
      let none = none_lower x y ys (ap is_lt e) up.0 in
      let over = none_upper x y ys e up.0 in
      ap₂ (λ n m. take n (y ∷ ys) ++ drop m (y ∷ ys)) (none_by (λ w. is_lt (cmp w x)) (y ∷ ys) none) (none_by (λ w. is_le (cmp w x)) (y ∷ ys) over)
      ∙ ap (λ l. y ∷ l)
      (sym (ap₂ (λ n m. take n ys ++ drop m ys) (none_by (λ w. is_lt (cmp w x)) ys none.1) (none_by (λ w. is_le (cmp w x)) ys over.1)) ∙ take_out ys x up.1)
      ∙ sym (ap (λ r. cond (not (is_eq r || false)) (y ∷ others ys x) (others ys x)) e))

  -- what is before x and what is behind it
  pub taken_out : (xs : List K) (x : K) (n m : ℕ) → IsSorted cmp xs → n ≡ lower xs x → m ≡ upper xs x → take n xs ++ drop m xs ≡ others xs x
  taken_out xs x n m sorted low high = ap₂ (λ i j. take i xs ++ drop j xs) low high ∙ take_out xs x (Ascends-from_sort cmp o xs sorted)
