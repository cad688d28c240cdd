-- Two lists in order without repeats and with the same elements are one list.
use Rattle.std.proofs.Common.{◌≡◌, ◌||◌, Bool, true, false, List, [], ◌∷◌, refl, sym, ap, ap₂, ◌∙◌, true≢false, IsPermutation, IsSorted, Ordering, Less}
use Rattle.std.proofs.Common.{Equal, Greater, is_eq}
use Rattle.std.specs.Ordering.{ordering_reverse, match_ordering, eq_by_cmp}
use Rattle.std.specs.Cmp.{IsTotalOrder}
use Rattle.std.specs.List.{AllByRecursion, dedup, dedup_from}
use Rattle.std.specs.List.Sorted.{IsStrictlySortedBy}
use Rattle.std.proofs.lemmas.Bool.{cond_both}
use Rattle.std.proofs.lemmas.Cmp.{tied_itself, alike_right}
use Rattle.std.proofs.lemmas.List.Sorted.{list_any-IsPermutation}
use Rattle.std.proofs.lemmas.List.Kept.{IsStrictlySortedBy-dedup}
use Rattle.std.specs.FinMap.{IsAntisymmetric}
use Rattle.use_orders.specs.Canon.{insert_new, set_of, has}
use Rattle.use_orders.proofs.Bags.{by_rank, all_weaker}

pub match_all : {X : Type 0} (P : X → Type 0) (r : Ordering) (a b c : X) → (r ≡ Less → P a) → (r ≡ Equal → P b) → (r ≡ Greater → P c)
    → P (match_ordering r a b c)
match_all P Less a b c f g h = f refl
match_all P Equal a b c f g h = g refl
match_all P Greater a b c f g h = h refl

pub swap_or : (a b c : Bool) → (a || (b || c)) ≡ (b || (a || c))
swap_or true true c = refl
swap_or true false c = refl
swap_or false true c = refl
swap_or false false c = refl

pub once_or : (a b : Bool) → (a || (a || b)) ≡ (a || b)
once_or true b = refl
once_or false b = refl

pub equal : (r : Ordering) → is_eq r ≡ true → r ≡ Equal
equal Less h = absurd (true≢false (sym h))
equal Equal h = refl
equal Greater h = absurd (true≢false (sym h))

by_test : (a b p q : Bool) → a ≡ b → (a || p) ≡ (b || q) → (a ≡ true → p ≡ false) → (b ≡ true → q ≡ false) → p ≡ q
by_test true true p q e same f g = f refl ∙ sym (g refl)
by_test true false p q e same f g = absurd (true≢false e)
by_test false true p q e same f g = absurd (true≢false (sym e))
by_test false false p q e same f g = same

module _ {K : Type 0} {cmp : K → K → Ordering} (o : IsTotalOrder cmp) where
  pub has-insert_new : (ys : List K) (x z : K) → has cmp (insert_new cmp ys x) z ≡ (is_eq (cmp z x) || has cmp ys z)
  has-insert_new [] x z = refl
  has-insert_new (y ∷ ys) x z =
      match_all (λ l. has cmp l z ≡ (is_eq (cmp z x) || has cmp (y ∷ ys) z)) (cmp x y) (x ∷ y ∷ ys) (y ∷ ys) (y ∷ insert_new cmp ys x)
      (λ _. refl)
      (λ e. sym (ap (λ r. is_eq r || (is_eq (cmp z y) || has cmp ys z)) (alike_right o x y z e) ∙ once_or (is_eq (cmp z y)) (has cmp ys z)))
      (λ _. ap (λ b. is_eq (cmp z y) || b) (has-insert_new ys x z) ∙ swap_or (is_eq (cmp z y)) (is_eq (cmp z x)) (has cmp ys z))

  pub has-set_of : (xs : List K) (z : K) → has cmp (set_of cmp xs) z ≡ has cmp xs z
  has-set_of [] z = refl
  has-set_of (x ∷ xs) z = has-insert_new (set_of cmp xs) x z ∙ ap (λ b. is_eq (cmp z x) || b) (has-set_of xs z)

  pub all-insert_new : (P : K → Type 0) (ys : List K) (x : K) → P x → AllByRecursion P ys → AllByRecursion P (insert_new cmp ys x)
  all-insert_new P [] x one all = (one, tt)
  all-insert_new P (y ∷ ys) x one all =
      match_all (AllByRecursion P) (cmp x y) (x ∷ y ∷ ys) (y ∷ ys) (y ∷ insert_new cmp ys x)
      (λ _. (one, all))
      (λ _. all)
      (λ _. (all.0, all-insert_new P ys x one all.1))

  pub over : (x y : K) → cmp x y ≡ Greater → cmp y x ≡ Less
  over x y e = o.antisymm y x ∙ ap ordering_reverse e

  pub rises-insert_new : (ys : List K) (x : K) → IsStrictlySortedBy cmp ys → IsStrictlySortedBy cmp (insert_new cmp ys x)
  unfolding IsStrictlySortedBy
  rises-insert_new [] x up = (tt, tt)
  rises-insert_new (y ∷ ys) x up =
      match_all (IsStrictlySortedBy cmp) (cmp x y) (x ∷ y ∷ ys) (y ∷ ys) (y ∷ insert_new cmp ys x)
      (λ e. ((e, all_weaker (λ w. cmp y w ≡ Less) (λ w. cmp x w ≡ Less) (λ w l. o.trans x y w e l) ys up.0), up))
      (λ _. up)
      (λ e. (all-insert_new (λ w. cmp y w ≡ Less) ys x (over x y e) up.0, rises-insert_new ys x up.1))

  pub rises-set_of : (xs : List K) → IsStrictlySortedBy cmp (set_of cmp xs)
  unfolding IsStrictlySortedBy
  rises-set_of [] = tt
  rises-set_of (x ∷ xs) = rises-insert_new (set_of cmp xs) x (rises-set_of xs)

  -- z is below all of ys
  pub has_below : (z : K) (ys : List K) → AllByRecursion (λ y. cmp z y ≡ Less) ys → has cmp ys z ≡ false
  has_below z [] h = refl
  has_below z (y ∷ ys) h = ap (λ r. is_eq r || has cmp ys z) h.0 ∙ has_below z ys h.1

  has_self : (x : K) (xs : List K) → has cmp (x ∷ xs) x ≡ true
  has_self x xs = ap (λ r. is_eq r || has cmp xs x) (tied_itself o x)

  apart : (x : K) (xs : List K) (y : K) (ys : List K) → cmp x y ≡ Less → AllByRecursion (λ w. cmp y w ≡ Less) ys → has cmp (x ∷ xs) x ≡ has cmp (y ∷ ys) x → ⊥
  apart x xs y ys l up same =
      true≢false
      (sym (has_self x xs) ∙ same ∙ has_below x (y ∷ ys) (l, all_weaker (λ w. cmp y w ≡ Less) (λ w. cmp x w ≡ Less) (λ w g. o.trans x y w l g) ys up))

  -- what the tails have, of two lists that rise from one thing
  tails : (x y z : K) (xs ys : List K) → cmp x y ≡ Equal → AllByRecursion (λ w. cmp x w ≡ Less) xs → AllByRecursion (λ w. cmp y w ≡ Less) ys
      → has cmp (x ∷ xs) z ≡ has cmp (y ∷ ys) z → has cmp xs z ≡ has cmp ys z
  tails x y z xs ys e up up' same =
      by_test (is_eq (cmp z x)) (is_eq (cmp z y)) (has cmp xs z) (has cmp ys z) (ap is_eq (alike_right o x y z e)) same
      (λ t. has_below z xs (all_weaker (λ w. cmp x w ≡ Less) (λ w. cmp z w ≡ Less) (λ w l. o.congr z x w (equal (cmp z x) t) ∙ l) xs up))
      (λ t. has_below z ys (all_weaker (λ w. cmp y w ≡ Less) (λ w. cmp z w ≡ Less) (λ w l. o.congr z y w (equal (cmp z y) t) ∙ l) ys up'))

  pub same_sets : IsAntisymmetric cmp → (xs ys : List K) → IsStrictlySortedBy cmp xs → IsStrictlySortedBy cmp ys → ((z : K) → has cmp xs z ≡ has cmp ys z)
      → xs ≡ ys
  unfolding IsStrictlySortedBy
  same_sets exact [] [] up up' same = refl
  same_sets exact [] (y ∷ ys) up up' same = absurd (true≢false (sym (has_self y ys) ∙ sym (same y)))
  same_sets exact (x ∷ xs) [] up up' same = absurd (true≢false (sym (has_self x xs) ∙ same x))
  same_sets exact (x ∷ xs) (y ∷ ys) up up' same =
      by_rank (x ∷ xs ≡ y ∷ ys) (cmp x y)
      (λ is. absurd (apart x xs y ys is up'.0 (same x)))
      (λ is. ap₂ (λ v vs. v ∷ vs) (exact x y is) (same_sets exact xs ys up.1 up'.1 (λ z. tails x y z xs ys is up.0 up'.0 (same z))))
      (λ is. absurd (apart y ys x xs (over x y is) up.0 (sym (same y))))

  module _ {E : K → K → Bool} (ties : (x y : K) → E x y ≡ eq_by_cmp cmp x y) where
    has-dedup_from : (k : K) (xs : List K) (z : K) → has cmp (dedup_from E k xs) z ≡ has cmp (k ∷ xs) z
    has-dedup_from k [] z = refl
    has-dedup_from k (x ∷ xs) z =
        cond_both (E x k) (dedup_from E k xs) (k ∷ dedup_from E x xs) (λ l. has cmp l z ≡ has cmp (k ∷ x ∷ xs) z)
        (λ e. has-dedup_from k xs z ∙ sym (ap (λ r. is_eq (cmp z k) || (is_eq r || has cmp xs z)) (alike_right o x k z (equal (cmp x k) (sym (ties x k) ∙ e)))
        ∙ once_or (is_eq (cmp z k)) (has cmp xs z)))
        (λ _. ap (λ b. is_eq (cmp z k) || b) (has-dedup_from x xs z))

    has-dedup : (xs : List K) (z : K) → has cmp (dedup E xs) z ≡ has cmp xs z
    has-dedup [] z = refl
    has-dedup (x ∷ xs) z = has-dedup_from x xs z

    -- what a sort and then `dedup` leave
    pub set_from_sort : IsAntisymmetric cmp → (xs ys zs : List K) → IsPermutation xs ys → IsSorted cmp ys → zs ≡ dedup E ys → zs ≡ set_of cmp xs
    set_from_sort exact xs ys zs moved up is =
        is ∙ same_sets exact (dedup E ys) (set_of cmp xs) (IsStrictlySortedBy-dedup o ties ys up) (rises-set_of xs)
        (λ z. has-dedup ys z ∙ sym (list_any-IsPermutation (λ y. is_eq (cmp z y)) xs ys moved) ∙ sym (has-set_of xs z))
