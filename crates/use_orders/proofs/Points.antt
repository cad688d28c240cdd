-- How many elements of a list in order pass a test that only its front passes.
use Rattle.std.proofs.Common.{◌≡◌, ℕ, zero, suc, ◌+◌, ◌<◌, ◌≤◌, Bool, true, false, cond, List, [], ◌∷◌, length, get_or, count_by, refl, sym, ap, ◌∙◌, arith}
use Rattle.std.proofs.Common.{IsSorted, Ordering, Less, Equal, Greater, is_lt, is_eq}
use Rattle.std.specs.Ordering.{ordering_reverse, is_le, ordering_index}
use Rattle.std.specs.Cmp.{IsTotalOrder}
use Rattle.std.specs.List.Sorted.{IsPartitionedBy, IsPartitionPoint}
use Rattle.std.proofs.lemmas.List.Sums.{sum_by-cons}
use Rattle.std.proofs.lemmas.List.Sorted.{searchable_from_sorted}
use Rattle.use_orders.specs.Canon.{times}
use Rattle.use_orders.proofs.Bags.{times-cons}

abbrev pub one_if : Bool → ℕ
one_if b = cond b 1 0

pub counted : {X : Type 0} (p : X → Bool) (x : X) (xs : List X) → count_by p (x ∷ xs) ≡ one_if (p x) + count_by p xs
counted p x xs = sum_by-cons (λ y. cond (p y) 1 0) x xs

none_counted : {X : Type 0} (p : X → Bool) (xs : List X) → ((k : ℕ) (d : X) → k < length xs → p (get_or xs k d) ≡ false) → count_by p xs ≡ 0
none_counted p [] h = refl
none_counted p (x ∷ xs) h =
    let one = counted p x xs in
    let rest = none_counted p xs (λ k d l. h (suc k) d (omega arith)) in
    let none : one_if (p x) ≡ 0 = ap one_if (h zero x (omega arith)) in
    omega (arith, one, rest, none)

front_counted : {X : Type 0} (p : X → Bool) (xs : List X) (i : ℕ) → i ≤ length xs → ((k : ℕ) (d : X) → k < i → p (get_or xs k d) ≡ true)
    → ((k : ℕ) (d : X) → i ≤ k → k < length xs → p (get_or xs k d) ≡ false) → i ≡ count_by p xs
front_counted p xs zero l in_front behind = sym (none_counted p xs (λ k d h. behind k d (omega arith) h))
front_counted p [] (suc i) l in_front behind = absurd (omega arith)
front_counted p (x ∷ xs) (suc i) l in_front behind =
    let one = counted p x xs in
    let rest = front_counted p xs i (omega arith) (λ k d h. in_front (suc k) d (omega arith)) (λ k d a b. behind (suc k) d (omega arith) (omega arith)) in
    let is : one_if (p x) ≡ 1 = ap one_if (in_front zero x (omega arith)) in
    omega (arith, one, rest, is)

pub point_is_count : {X : Type 0} (p : X → Bool) (xs : List X) (i : ℕ) → i ≤ length xs → IsPartitionPoint (λ y. p y ≡ true) (λ y. p y ≡ false) xs i
    → i ≡ count_by p xs
point_is_count p xs i l at = front_counted p xs i l (λ k d h. at.0 k d (omega arith) h) (λ k d a b. at.1 k d a b)

not_higher : (a b : Ordering) → ordering_index a ≤ ordering_index b → is_lt b ≡ true → is_lt a ≡ true
not_higher Less b l e = refl
not_higher Equal Less l e = absurd (omega arith)
not_higher Equal Equal l e = e
not_higher Equal Greater l e = e
not_higher Greater Less l e = absurd (omega arith)
not_higher Greater Equal l e = e
not_higher Greater Greater l e = e

not_over : (a b : Ordering) → ordering_index a ≤ ordering_index b → is_le b ≡ true → is_le a ≡ true
not_over Less b l e = refl
not_over Equal b l e = refl
not_over Greater Less l e = absurd (omega arith)
not_over Greater Equal l e = absurd (omega arith)
not_over Greater Greater l e = e

module _ {K : Type 0} {cmp : K → K → Ordering} (o : IsTotalOrder cmp) where
  pub low_front : (xs : List K) (x : K) → IsSorted cmp xs → IsPartitionedBy (λ y. is_lt (cmp y x)) xs
  low_front xs x up i j d between inside e =
      not_higher (cmp (get_or xs i d) x) (cmp (get_or xs j d) x) (searchable_from_sorted o (λ a. a) xs x up i j d between inside) e

  pub high_front : (xs : List K) (x : K) → IsSorted cmp xs → IsPartitionedBy (λ y. is_le (cmp y x)) xs
  high_front xs x up i j d between inside e =
      not_over (cmp (get_or xs i d) x) (cmp (get_or xs j d) x) (searchable_from_sorted o (λ a. a) xs x up i j d between inside) e

  sides : (r : Ordering) → one_if (is_le r) ≡ one_if (is_lt r) + one_if (is_eq (ordering_reverse r))
  sides Less = refl
  sides Equal = refl
  sides Greater = refl

  pub ties_between : (xs : List K) (x : K) → count_by (λ y. is_le (cmp y x)) xs ≡ count_by (λ y. is_lt (cmp y x)) xs + times cmp xs x
  ties_between [] x = refl
  ties_between (y ∷ ys) x =
      let le = counted (λ y. is_le (cmp y x)) y ys in
      let lt = counted (λ y. is_lt (cmp y x)) y ys in
      let eq = times-cons cmp y ys x in
      let rest = ties_between ys x in
      let one : one_if (is_le (cmp y x)) ≡ one_if (is_lt (cmp y x)) + one_if (is_eq (cmp x y)) = sides (cmp y x)
      ∙ ap (λ r. one_if (is_lt (cmp y x)) + one_if (is_eq r)) (sym (o.antisymm x y)) in
      omega (arith, le, lt, eq, rest, one)
