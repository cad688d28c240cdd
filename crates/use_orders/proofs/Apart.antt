-- What is in one of two lists in order without repeats and not in the other, step by step.
use Rattle.std.proofs.Common.{◌≡◌, ◌||◌, ◌&&◌, ◌++◌, ◌+◌, ◌<◌, ◌≤◌, ◌⊎◌, inl, inr, ⊎_elim, ℕ, zero, suc, not, Bool, true, false, cond, List, [], ◌∷◌}
use Rattle.std.proofs.Common.{drop, get_or, length, refl, sym, ap, ap₂, ◌∙◌, subst, arith, append_assoc, append-nil, drop_of_length-le}
use Rattle.std.proofs.Common.{Ordering, Less, Equal, Greater, is_eq}
use Rattle.std.specs.Cmp.{IsTotalOrder}
use Rattle.std.specs.FinMap.{IsAntisymmetric}
use Rattle.std.specs.List.{AllByRecursion}
use Rattle.std.specs.List.Sorted.{IsStrictlySortedBy}
use Rattle.std.proofs.lemmas.Cmp.{alike_right}
use Rattle.std.proofs.lemmas.List.Folds.{list_any-append}
use Rattle.use_orders.specs.Canon.{has, set_of, without}
use Rattle.use_orders.specs.Walks.{Progress, apart}
use Rattle.use_orders.proofs.Bags.{all_weaker}
use Rattle.use_orders.proofs.Sets.{equal, over, has-set_of, rises-set_of, has_below}
use Rattle.use_orders.proofs.Merged.{rises, is_set, has_alike, has-filter}
use Rattle.use_orders.proofs.Kept.{all_set}
use Rattle.use_orders.proofs.Staying.{all_filter}
use Rattle.use_orders.proofs.Joined.{both}
use Rattle.use_orders.proofs.Shared.{opened}

-- whether one of two is, and not both
abbrev odd : Bool → Bool → Bool
odd a b = cond a (not b) b

odd_is : (a b : Bool) → ((not b && a) || (not a && b)) ≡ odd a b
odd_is true true = refl
odd_is true false = refl
odd_is false true = refl
odd_is false false = refl

odd_left : (e a b : Bool) → (e ≡ true → b ≡ false) → (e || odd a b) ≡ odd (e || a) b
odd_left true a b none = sym (ap not (none refl))
odd_left false a b none = refl

odd_right : (e a b : Bool) → (e ≡ true → a ≡ false) → (e || odd a b) ≡ odd a (e || b)
odd_right true a b none = sym (ap (λ c. odd c true) (none refl))
odd_right false a b none = refl

odd_both : (e a b : Bool) → (e ≡ true → a ≡ false) → (e ≡ true → b ≡ false) → odd a b ≡ odd (e || a) (e || b)
odd_both true a b none none' = ap₂ odd (none refl) (none' refl)
odd_both false a b none none' = refl

odd_none : (a : Bool) → a ≡ odd a false
odd_none true = refl
odd_none false = refl

module _ {K : Type 0} (cmp : K → K → Ordering) where
  strict_drop : (n : ℕ) (xs : List K) → IsStrictlySortedBy cmp xs → IsStrictlySortedBy cmp (drop n xs)
  unfolding IsStrictlySortedBy
  strict_drop zero xs up = up
  strict_drop (suc n) [] up = up
  strict_drop (suc n) (x ∷ xs) up = strict_drop n xs up.1

module _ {K : Type 0} {cmp : K → K → Ordering} (o : IsTotalOrder cmp) (exact : IsAntisymmetric cmp) where
  has_without : (xs ys : List K) (z : K) → has cmp (without cmp xs ys) z ≡ (not (has cmp ys z) && has cmp xs z)
  has_without xs ys z = has-filter o (λ x. not (has cmp ys x)) (λ x y e. ap not (has_alike o ys x y e)) xs z

  has_apart : (xs ys : List K) (z : K) → has cmp (without cmp xs ys ++ without cmp ys xs) z ≡ odd (has cmp xs z) (has cmp ys z)
  has_apart xs ys z =
      list_any-append (λ y. is_eq (cmp z y)) (without cmp xs ys) (without cmp ys xs)
      ∙ ap₂ (λ a b. a || b) (has_without xs ys z) (has_without ys xs z)
      ∙ odd_is (has cmp xs z) (has cmp ys z)

  up_apart : (w : K) (xs ys : List K) → AllByRecursion (λ v. cmp w v ≡ Less) xs → AllByRecursion (λ v. cmp w v ≡ Less) ys
      → IsStrictlySortedBy cmp (w ∷ apart cmp xs ys)
  unfolding IsStrictlySortedBy
  up_apart w xs ys a b =
      let P : K → Type 0 = λ v. cmp w v ≡ Less in (
        all_set o P (without cmp xs ys ++ without cmp ys xs)
            (both P (without cmp xs ys) (without cmp ys xs) (all_filter P (λ x. not (has cmp ys x)) xs a) (all_filter P (λ y. not (has cmp xs y)) ys b)),
        rises-set_of o (without cmp xs ys ++ without cmp ys xs),
      )

  -- what ties with x is not where x is below all
  absent : (x z : K) (ys : List K) → AllByRecursion (λ y. cmp x y ≡ Less) ys → is_eq (cmp z x) ≡ true → has cmp ys z ≡ false
  absent x z ys low e = has_alike o ys z x (equal (cmp z x) e) ∙ has_below o x ys low

  later : (x y : K) (ys : List K) → cmp x y ≡ Less → AllByRecursion (λ w. cmp y w ≡ Less) ys → AllByRecursion (λ w. cmp x w ≡ Less) (y ∷ ys)
  later x y ys l low = (l, all_weaker (λ w. cmp y w ≡ Less) (λ w. cmp x w ≡ Less) (λ w m. o.trans x y w l m) ys low)

  take_first : (x : K) (xs : List K) (y : K) (ys : List K) → IsStrictlySortedBy cmp (x ∷ xs) → IsStrictlySortedBy cmp (y ∷ ys) → cmp x y ≡ Less
      → x ∷ apart cmp xs (y ∷ ys) ≡ apart cmp (x ∷ xs) (y ∷ ys)
  unfolding IsStrictlySortedBy
  take_first x xs y ys up up' l =
      let low = later x y ys l up'.0 in
      is_set o exact (x ∷ apart cmp xs (y ∷ ys)) (without cmp (x ∷ xs) (y ∷ ys) ++ without cmp (y ∷ ys) (x ∷ xs)) (up_apart x xs (y ∷ ys) up.0 low)
      (λ z.
      ap (λ b. is_eq (cmp z x) || b) (has-set_of o (without cmp xs (y ∷ ys) ++ without cmp (y ∷ ys) xs) z ∙ has_apart xs (y ∷ ys) z)
      ∙ odd_left (is_eq (cmp z x)) (has cmp xs z) (has cmp (y ∷ ys) z) (λ e. absent x z (y ∷ ys) low e)
      ∙ sym (has_apart (x ∷ xs) (y ∷ ys) z))

  take_second : (x : K) (xs : List K) (y : K) (ys : List K) → IsStrictlySortedBy cmp (x ∷ xs) → IsStrictlySortedBy cmp (y ∷ ys) → cmp x y ≡ Greater
      → y ∷ apart cmp (x ∷ xs) ys ≡ apart cmp (x ∷ xs) (y ∷ ys)
  unfolding IsStrictlySortedBy
  take_second x xs y ys up up' g =
      let low = later y x xs (over o x y g) up.0 in
      is_set o exact (y ∷ apart cmp (x ∷ xs) ys) (without cmp (x ∷ xs) (y ∷ ys) ++ without cmp (y ∷ ys) (x ∷ xs)) (up_apart y (x ∷ xs) ys low up'.0)
      (λ z.
      ap (λ b. is_eq (cmp z y) || b) (has-set_of o (without cmp (x ∷ xs) ys ++ without cmp ys (x ∷ xs)) z ∙ has_apart (x ∷ xs) ys z)
      ∙ odd_right (is_eq (cmp z y)) (has cmp (x ∷ xs) z) (has cmp ys z) (λ e. absent y z (x ∷ xs) low e)
      ∙ sym (has_apart (x ∷ xs) (y ∷ ys) z))

  pass_both : (x : K) (xs : List K) (y : K) (ys : List K) → IsStrictlySortedBy cmp (x ∷ xs) → IsStrictlySortedBy cmp (y ∷ ys) → cmp x y ≡ Equal
      → apart cmp xs ys ≡ apart cmp (x ∷ xs) (y ∷ ys)
  unfolding IsStrictlySortedBy
  pass_both x xs y ys up up' t =
      let low = all_weaker (λ w. cmp y w ≡ Less) (λ w. cmp x w ≡ Less) (λ w m. o.congr x y w t ∙ m) ys up'.0 in
      is_set o exact (apart cmp xs ys) (without cmp (x ∷ xs) (y ∷ ys) ++ without cmp (y ∷ ys) (x ∷ xs))
      (rises-set_of o (without cmp xs ys ++ without cmp ys xs))
      (λ z.
      has-set_of o (without cmp xs ys ++ without cmp ys xs) z
      ∙ has_apart xs ys z
      ∙ odd_both (is_eq (cmp z x)) (has cmp xs z) (has cmp ys z) (λ e. absent x z xs up.0 e) (λ e. absent x z ys low e)
      ∙ ap (λ r. odd (is_eq (cmp z x) || has cmp xs z) (is_eq r || has cmp ys z)) (alike_right o x y z t)
      ∙ sym (has_apart (x ∷ xs) (y ∷ ys) z))

  -- one side alone
  first_alone : (xs : List K) → IsStrictlySortedBy cmp xs → xs ≡ apart cmp xs []
  first_alone xs up = is_set o exact xs (without cmp xs [] ++ []) up (λ z. odd_none (has cmp xs z) ∙ sym (has_apart xs [] z))

  second_alone : (ys : List K) → IsStrictlySortedBy cmp ys → ys ≡ apart cmp [] ys
  second_alone ys up = is_set o exact ys (without cmp ys []) up (λ z. sym (has_apart [] ys z))

  module _ (a b : List K) (i j : ℕ) (x y : K) (up : set_of cmp a ≡ a) (up' : set_of cmp b ≡ b) (in_a : i < length a) (in_b : j < length b)
      (at : x ≡ get_or a i x) (at' : y ≡ get_or b j y) (out out' : List K) where
    open_a : drop i a ≡ x ∷ drop (i + 1) a
    open_a = opened a i x in_a at

    open_b : drop j b ≡ y ∷ drop (j + 1) b
    open_b = opened b j y in_b at'

    rises_a : IsStrictlySortedBy cmp (x ∷ drop (i + 1) a)
    rises_a = subst (IsStrictlySortedBy cmp) open_a (strict_drop cmp i a (rises o a up))

    rises_b : IsStrictlySortedBy cmp (y ∷ drop (j + 1) b)
    rises_b = subst (IsStrictlySortedBy cmp) open_b (strict_drop cmp j b (rises o b up'))

    onto : (v : K) (l rest : List K) → out' ≡ out ++ v ∷ [] → v ∷ rest ≡ l → out' ++ rest ≡ out ++ l
    onto v l rest push is = ap (λ m. m ++ rest) push ∙ append_assoc out (v ∷ []) rest ∙ ap (λ m. out ++ m) is

    pub first_apart : cmp x y ≡ Less → out' ≡ out ++ x ∷ [] → Progress (apart cmp) a b i j out (i + 1) j out'
    first_apart l push =
        let is : x ∷ apart cmp (drop (i + 1) a) (drop j b) ≡ apart cmp (drop i a) (drop j b) =
        ap (λ m. x ∷ apart cmp (drop (i + 1) a) m) open_b
        ∙ take_first x (drop (i + 1) a) y (drop (j + 1) b) rises_a rises_b l
        ∙ sym (ap₂ (apart cmp) open_a open_b) in
        record { same = onto x _ _ push is; further = omega arith; in_a = omega arith; in_b = omega arith }

    pub second_apart : cmp x y ≡ Greater → out' ≡ out ++ y ∷ [] → Progress (apart cmp) a b i j out i (j + 1) out'
    second_apart g push =
        let is : y ∷ apart cmp (drop i a) (drop (j + 1) b) ≡ apart cmp (drop i a) (drop j b) =
        ap (λ m. y ∷ apart cmp m (drop (j + 1) b)) open_a
        ∙ take_second x (drop (i + 1) a) y (drop (j + 1) b) rises_a rises_b g
        ∙ sym (ap₂ (apart cmp) open_a open_b) in
        record { same = onto y _ _ push is; further = omega arith; in_a = omega arith; in_b = omega arith }

    pub both_passed : cmp x y ≡ Equal → Progress (apart cmp) a b i j out (i + 1) (j + 1) out
    both_passed t =
        let is = pass_both x (drop (i + 1) a) y (drop (j + 1) b) rises_a rises_b t ∙ sym (ap₂ (apart cmp) open_a open_b) in
        record { same = ap (λ l. out ++ l) is; further = omega arith; in_a = omega arith; in_b = omega arith }

  left : (xs ys : List K) → IsStrictlySortedBy cmp xs → IsStrictlySortedBy cmp ys → (xs ≡ []) ⊎ (ys ≡ []) → xs ++ ys ≡ apart cmp xs ys
  left xs ys up up' (inl e) = ap (λ l. l ++ ys) e ∙ second_alone ys up' ∙ sym (ap (λ l. apart cmp l ys) e)
  left xs ys up up' (inr e) = ap (λ l. xs ++ l) e ∙ append-nil xs ∙ first_alone xs up ∙ sym (ap (apart cmp xs) e)

  -- the rest of the side that is left
  pub rest_apart : (a b out mid done whole : List K) (i j : ℕ) → set_of cmp a ≡ a → set_of cmp b ≡ b → mid ≡ out ++ drop i a → done ≡ mid ++ drop j b
      → (length a ≤ i) ⊎ (length b ≤ j)
      → out ++ apart cmp (drop i a) (drop j b) ≡ whole → done ≡ whole
  rest_apart a b out mid done whole i j up up' first second ends same =
      let rest = left (drop i a) (drop j b) (strict_drop cmp i a (rises o a up)) (strict_drop cmp j b (rises o b up')) (⊎_elim (λ l. inl
      (drop_of_length-le a l)) (λ l. inr (drop_of_length-le b l)) ends) in
      second ∙ ap (λ l. l ++ drop j b) first ∙ append_assoc out (drop i a) (drop j b) ∙ ap (λ l. out ++ l) rest ∙ same
