-- Lists in which no two elements tie.
use Rattle.std.proofs.Common.{◌≡◌, ◌||◌, ◌&&◌, ◌++◌, ℕ, zero, suc, not, Bool, true, false, List, [], ◌∷◌, take, drop, reverse, refl, sym, ap, ap₂}
use Rattle.std.proofs.Common.{◌∙◌}
use Rattle.std.proofs.Common.{Ordering, Less, Equal, Greater, is_eq}
use mathlib.Core.List.{reverse_aux}
use Rattle.std.specs.Ordering.{ordering_reverse}
use Rattle.std.specs.Cmp.{IsTotalOrder}
use Rattle.std.specs.List.{AllByRecursion}
use Rattle.std.specs.List.Sorted.{IsStrictlySortedBy}
use Rattle.std.proofs.lemmas.Bool.{cond_both}
use Rattle.std.proofs.Math.Bool.{and-false}
use Rattle.std.proofs.lemmas.List.Folds.{list_any-append}
use Rattle.use_orders.specs.Canon.{has, set_of, firsts_of, all_differ, selected}
use Rattle.use_orders.proofs.Bags.{all_weaker}
use Rattle.use_orders.proofs.Merged.{rises}
use Rattle.use_orders.proofs.Staying.{AreNew, kept_new, new_kept, none_of}

neither : (a b : Bool) → a ≡ false → b ≡ false → (a || (b || false)) ≡ false
neither a b e f = ap₂ (λ c d. c || (d || false)) e f

tie_back : (r : Ordering) → is_eq r ≡ is_eq (ordering_reverse r)
tie_back Less = refl
tie_back Equal = refl
tie_back Greater = refl

module _ {X : Type 0} (P : X → Type 0) where
  pub all_selected : (xs : List X) (flags : List Bool) → AllByRecursion P xs → AllByRecursion P (selected xs flags)
  all_selected [] flags all = tt
  all_selected (x ∷ xs) [] all = tt
  all_selected (x ∷ xs) (flag ∷ flags) all =
      cond_both flag (x ∷ selected xs flags) (selected xs flags) (AllByRecursion P) (λ _. (all.0, all_selected xs flags all.1))
      (λ _. all_selected xs flags all.1)

  pub all_taken : (n : ℕ) (xs : List X) → AllByRecursion P xs → AllByRecursion P (take n xs)
  all_taken zero xs all = tt
  all_taken (suc n) [] all = tt
  all_taken (suc n) (x ∷ xs) all = (all.0, all_taken n xs all.1)

  pub all_inserted : (n : ℕ) (xs : List X) (x : X) → AllByRecursion P xs → P x → AllByRecursion P (take n xs ++ x ∷ drop n xs)
  all_inserted zero xs x all one = (one, all)
  all_inserted (suc n) [] x all one = (one, tt)
  all_inserted (suc n) (y ∷ ys) x all one = (all.0, all_inserted n ys x all.1 one)

module _ {K : Type 0} (cmp : K → K → Ordering) where
  abbrev Unlike : K → K → Type 0
  Unlike x y = is_eq (cmp x y) ≡ false

  unfoldable pub Distinct : List K → Type 0
  Distinct [] = Unit {0}
  Distinct (x ∷ xs) = AllByRecursion (Unlike x) xs × Distinct xs

  unlike_all : (x : K) (xs : List K) → has cmp xs x ≡ false → AllByRecursion (Unlike x) xs
  unlike_all x [] e = tt
  unlike_all x (y ∷ ys) e = let split = none_of (is_eq (cmp x y)) (has cmp ys x) e in (split.0, unlike_all x ys split.1)

  all_unlike : (x : K) (xs : List K) → AllByRecursion (Unlike x) xs → has cmp xs x ≡ false
  all_unlike x [] all = refl
  all_unlike x (y ∷ ys) all = ap₂ (λ a b. a || b) all.0 (all_unlike x ys all.1)

  distinct_drop : (n : ℕ) (xs : List K) → Distinct xs → Distinct (drop n xs)
  unfolding Distinct
  distinct_drop zero xs d = d
  distinct_drop (suc n) [] d = d
  distinct_drop (suc n) (x ∷ xs) d = distinct_drop n xs d.1

  distinct_take : (n : ℕ) (xs : List K) → Distinct xs → Distinct (take n xs)
  unfolding Distinct
  distinct_take zero xs d = tt
  distinct_take (suc n) [] d = tt
  distinct_take (suc n) (x ∷ xs) d = (all_taken (Unlike x) n xs d.0, distinct_take n xs d.1)

  distinct_selected : (xs : List K) (flags : List Bool) → Distinct xs → Distinct (selected xs flags)
  unfolding Distinct
  distinct_selected [] flags d = tt
  distinct_selected (x ∷ xs) [] d = tt
  distinct_selected (x ∷ xs) (flag ∷ flags) d =
      cond_both flag (x ∷ selected xs flags) (selected xs flags) Distinct
      (λ _. (all_selected (Unlike x) xs flags d.0, distinct_selected xs flags d.1))
      (λ _. distinct_selected xs flags d.1)

  module _ (o : IsTotalOrder cmp) where
    turned : (x y : K) → Unlike x y → Unlike y x
    turned x y e = ap is_eq (o.antisymm y x) ∙ sym (tie_back (cmp x y)) ∙ e

    distinct_inserted : (n : ℕ) (xs : List K) (x : K) → Distinct xs → AllByRecursion (Unlike x) xs → Distinct (take n xs ++ x ∷ drop n xs)
    unfolding Distinct
    distinct_inserted zero xs x d all = (all, d)
    distinct_inserted (suc n) [] x d all = (tt, tt)
    distinct_inserted (suc n) (y ∷ ys) x d all = (all_inserted (Unlike y) n ys x d.0 (turned x y all.0), distinct_inserted n ys x d.1 all.1)

    abbrev Apart : List K → List K → Type 0
    Apart xs ys = AllByRecursion (λ x. AllByRecursion (Unlike x) ys) xs

    one_more : (x : K) (xs ys : List K) → AllByRecursion (Unlike x) xs → Apart xs ys → Apart xs (x ∷ ys)
    one_more x [] ys new far = tt
    one_more x (y ∷ xs) ys new far = ((turned x y new.0, far.0), one_more x xs ys new.1 far.1)

    distinct_turned : (xs done : List K) → Distinct xs → Distinct done → Apart xs done → Distinct (reverse_aux xs done)
    unfolding Distinct
    distinct_turned [] done d e far = e
    distinct_turned (x ∷ xs) done d e far = distinct_turned xs (x ∷ done) d.1 (far.0, e) (one_more x xs done d.0 far.1)

    far_from_none : (xs : List K) → Apart xs []
    far_from_none [] = tt
    far_from_none (x ∷ xs) = (tt, far_from_none xs)

    none_distinct : Distinct []
    unfolding Distinct
    none_distinct = tt

    distinct_reverse : (xs : List K) → Distinct xs → Distinct (reverse xs)
    distinct_reverse xs d = distinct_turned xs [] d none_distinct (far_from_none xs)

    -- a list without ties is one of first elements

    new_distinct : (seen xs : List K) → AreNew cmp seen xs → AllByRecursion (λ x. has cmp seen x ≡ false) xs × Distinct xs
    unfolding AreNew Distinct
    new_distinct seen [] new = (tt, tt)
    new_distinct seen (x ∷ xs) new =
        let rest = new_distinct (seen ++ x ∷ []) xs new.1 in
        let parts : (z : K) → has cmp (seen ++ x ∷ []) z ≡ false → (has cmp seen z ≡ false) × (has cmp (x ∷ []) z ≡ false) =
        λ z e. none_of (has cmp seen z) (has cmp (x ∷ []) z) (sym (list_any-append (λ y. is_eq (cmp z y)) seen (x ∷ [])) ∙ e) in (
          (new.0, all_weaker (λ z. has cmp (seen ++ x ∷ []) z ≡ false) (λ z. has cmp seen z ≡ false) (λ z e. (parts z e).0) xs rest.0),
          (
            all_weaker (λ z. has cmp (seen ++ x ∷ []) z ≡ false) (Unlike x) (λ z e. turned z x (none_of (is_eq (cmp z x)) false
                (parts z e).1).0) xs rest.0,
            rest.1,
          ),
        )

    both_new : (seen : List K) (x : K) (xs : List K) → AllByRecursion (λ z. has cmp seen z ≡ false) xs → AllByRecursion (Unlike x) xs
        → AllByRecursion (λ z. has cmp (seen ++ x ∷ []) z ≡ false) xs
    both_new seen x [] a b = tt
    both_new seen x (z ∷ xs) a b =
        (list_any-append (λ y. is_eq (cmp z y)) seen (x ∷ []) ∙ neither (has cmp seen z) (is_eq (cmp z x)) a.0 (turned x z b.0), both_new seen x xs a.1 b.1)

    distinct_new : (seen xs : List K) → AllByRecursion (λ x. has cmp seen x ≡ false) xs → Distinct xs → AreNew cmp seen xs
    unfolding AreNew Distinct
    distinct_new seen [] a d = tt
    distinct_new seen (x ∷ xs) a d = (a.0, distinct_new (seen ++ x ∷ []) xs (both_new seen x xs a.1 d.0) d.1)

    none_seen : (xs : List K) → AllByRecursion (λ x. has cmp [] x ≡ false) xs
    none_seen [] = tt
    none_seen (x ∷ xs) = (refl, none_seen xs)

    pub Distinct-from_firsts : (xs : List K) → firsts_of cmp xs ≡ xs → Distinct xs
    Distinct-from_firsts xs is = (new_distinct [] xs (new_kept cmp [] xs is)).1

    pub firsts_same : (xs : List K) → Distinct xs → firsts_of cmp xs ≡ xs
    firsts_same xs d = kept_new cmp [] xs (distinct_new [] xs (none_seen xs) d)

    -- what stays a list of first elements

    pub firsts_selected : (xs : List K) (flags : List Bool) → firsts_of cmp xs ≡ xs → firsts_of cmp (selected xs flags) ≡ selected xs flags
    firsts_selected xs flags is = firsts_same (selected xs flags) (distinct_selected xs flags (Distinct-from_firsts xs is))

    pub firsts_part : (m n : ℕ) (xs : List K) → firsts_of cmp xs ≡ xs → firsts_of cmp (take m (drop n xs)) ≡ take m (drop n xs)
    firsts_part m n xs is = firsts_same (take m (drop n xs)) (distinct_take m (drop n xs) (distinct_drop n xs (Distinct-from_firsts xs is)))

    pub firsts_reverse : (xs : List K) → firsts_of cmp xs ≡ xs → firsts_of cmp (reverse xs) ≡ reverse xs
    firsts_reverse xs is = firsts_same (reverse xs) (distinct_reverse xs (Distinct-from_firsts xs is))

    pub firsts_inserted : (n : ℕ) (xs : List K) (x : K) → firsts_of cmp xs ≡ xs → has cmp xs x ≡ false
        → firsts_of cmp (take n xs ++ x ∷ drop n xs) ≡ take n xs ++ x ∷ drop n xs
    firsts_inserted n xs x is new = firsts_same (take n xs ++ x ∷ drop n xs) (distinct_inserted n xs x (Distinct-from_firsts xs is) (unlike_all x xs new))

    -- a list that strictly rises has no ties

    distinct_rising : (xs : List K) → IsStrictlySortedBy cmp xs → Distinct xs
    unfolding IsStrictlySortedBy Distinct
    distinct_rising [] up = tt
    distinct_rising (x ∷ xs) up = (all_weaker (λ y. cmp x y ≡ Less) (Unlike x) (λ y e. ap is_eq e) xs up.0, distinct_rising xs up.1)

    pub firsts_set : (xs : List K) → set_of cmp xs ≡ xs → firsts_of cmp xs ≡ xs
    firsts_set xs is = firsts_same xs (distinct_rising xs (rises o xs is))

    -- the test that no two tie

    far_both : (a b c d : Bool) → (not (a || (b || false)) && (c && not d)) ≡ ((not a && c) && not (b || d))
    far_both true b c d = refl
    far_both false true c d = sym (and-false c)
    far_both false false c d = refl

    pub push_differs : (xs : List K) (x : K) → all_differ cmp (xs ++ x ∷ []) ≡ (all_differ cmp xs && not (has cmp xs x))
    push_differs [] x = refl
    push_differs (y ∷ ys) x =
        ap₂ (λ a b. not a && b) (list_any-append (λ z. is_eq (cmp y z)) ys (x ∷ [])) (push_differs ys x)
        ∙ far_both (has cmp ys y) (is_eq (cmp y x)) (all_differ cmp ys) (has cmp ys x)
        ∙ ap (λ b. (not (has cmp ys y) && all_differ cmp ys) && not (b || has cmp ys x)) (tie_back (cmp y x) ∙ sym (ap is_eq (o.antisymm x y)))
