-- What stays as its kind keeps it when elements go.
use Rattle.std.proofs.Common.{◌≡◌, ◌+◌, ◌≤◌, ◌++◌, ◌||◌, ◌&&◌, Bool, true, false, cond, fold, filter, List, [], ◌∷◌, length, refl, sym, ap, ap₂, ◌∙◌}
use Rattle.std.proofs.Common.{true≢false, arith, append_assoc, append-nil, length-append, IsSorted, Ordering, is_eq, is_gt}
use Rattle.std.specs.Cmp.{IsTotalOrder}
use Rattle.std.specs.List.{AllByRecursion}
use Rattle.std.specs.FinMap.{IsAntisymmetric}
use Rattle.std.proofs.lemmas.Bool.{cond_both}
use Rattle.std.proofs.lemmas.List.Folds.{list_any-append}
use Rattle.std.proofs.lemmas.List.Sums.{fold_push}
use Rattle.std.proofs.lemmas.List.Kept.{IsStrictlySortedBy-filter}
use Rattle.use_orders.specs.Canon.{has, add_new, bag_of, set_of, firsts_of, within, without_one, common_of}
use Rattle.use_orders.proofs.Bags.{Ascends, Ascends-from_sort}
use Rattle.use_orders.proofs.Merged.{rises, is_set, has-filter, has_alike}
use Rattle.use_orders.proofs.Joined.{bag_same}

pub none_of : (a b : Bool) → (a || b) ≡ false → (a ≡ false) × (b ≡ false)
none_of true b e = absurd (true≢false e)
none_of false b e = (refl, e)

and_swap : (a b : Bool) → (a && b) ≡ (b && a)
and_swap true true = refl
and_swap true false = refl
and_swap false true = refl
and_swap false false = refl

module _ {X : Type 0} (P : X → Type 0) where
  pub all_filter : (p : X → Bool) (xs : List X) → AllByRecursion P xs → AllByRecursion P (filter p xs)
  all_filter p [] all = tt
  all_filter p (x ∷ xs) all =
      cond_both (p x) (x ∷ filter p xs) (filter p xs) (AllByRecursion P) (λ _. (all.0, all_filter p xs all.1)) (λ _. all_filter p xs all.1)

module _ {K : Type 0} (cmp : K → K → Ordering) where
  pub all_common : (P : K → Type 0) (xs ys : List K) → AllByRecursion P xs → AllByRecursion P (common_of cmp xs ys)
  all_common P [] ys all = tt
  all_common P (x ∷ xs) ys all =
      cond_both (has cmp ys x) (x ∷ common_of cmp xs (without_one cmp ys x)) (common_of cmp xs ys) (AllByRecursion P)
      (λ _. (all.0, all_common P xs (without_one cmp ys x) all.1))
      (λ _. all_common P xs ys all.1)

  -- each element is new to those before it
  unfoldable pub AreNew : List K → List K → Type 0
  AreNew seen [] = Unit {0}
  AreNew seen (x ∷ xs) = (has cmp seen x ≡ false) × AreNew (seen ++ x ∷ []) xs

  pub kept_new : (seen xs : List K) → AreNew seen xs → fold (add_new cmp) seen xs ≡ seen ++ xs
  unfolding AreNew
  kept_new seen [] new = sym (append-nil seen)
  kept_new seen (x ∷ xs) new =
      ap (λ b. fold (add_new cmp) (cond b seen (seen ++ x ∷ [])) xs) new.0 ∙ kept_new (seen ++ x ∷ []) xs new.1 ∙ append_assoc seen (x ∷ []) xs

  no_longer : (seen xs : List K) → length (fold (add_new cmp) seen xs) ≤ length seen + length xs
  no_longer seen [] = omega arith
  no_longer seen (x ∷ xs) =
      let pushed : length (seen ++ x ∷ []) ≡ length seen + 1 = length-append seen (x ∷ []) in
      cond_both (has cmp seen x) seen (seen ++ x ∷ []) (λ l. length (fold (add_new cmp) l xs) ≤ length seen + length (x ∷ xs))
      (λ _.
      let rest = no_longer seen xs in
      omega (arith, rest))
      (λ _.
      let rest = no_longer (seen ++ x ∷ []) xs in
      omega (arith, rest, pushed))

  pub new_kept : (seen xs : List K) → fold (add_new cmp) seen xs ≡ seen ++ xs → AreNew seen xs
  unfolding AreNew
  new_kept seen [] same = tt
  new_kept seen (x ∷ xs) same =
      cond_both (has cmp seen x) true false (λ _. AreNew seen (x ∷ xs))
      (λ e.
      let short = no_longer seen xs in
      let whole : length (fold (add_new cmp) seen xs) ≡ length seen + length (x ∷ xs) = ap length (sym (ap (λ b. fold (add_new cmp) (cond b seen (seen ++ x
      ∷ [])) xs) e) ∙ same) ∙ length-append seen (x ∷ xs) in
      absurd (omega (arith, short, whole)))
      (λ e. (
        e,
        new_kept (seen ++ x ∷ []) xs (sym (ap (λ b. fold (add_new cmp) (cond b seen (seen ++ x ∷ [])) xs) e) ∙ same ∙ sym (append_assoc seen (x
            ∷ []) xs)),
      ))

  new_filter : (p : K → Bool) (seen fewer xs : List K) → ((z : K) → has cmp seen z ≡ false → has cmp fewer z ≡ false) → AreNew seen xs
      → AreNew fewer (filter p xs)
  unfolding AreNew
  new_filter p seen fewer [] sub new = tt
  new_filter p seen fewer (x ∷ xs) sub new =
      let parts : (z : K) → has cmp (seen ++ x ∷ []) z ≡ false → (has cmp seen z ≡ false) × (has cmp (x
      ∷ []) z ≡ false) = λ z e. none_of (has cmp seen z) (has cmp (x ∷ []) z) (sym (list_any-append (λ y. is_eq (cmp z y)) seen (x ∷ [])) ∙ e) in
      cond_both (p x) (x ∷ filter p xs) (filter p xs) (AreNew fewer)
      (λ _. (
        sub x new.0,
        new_filter p (seen ++ x ∷ []) (fewer ++ x ∷ []) xs (λ z e. list_any-append (λ y. is_eq (cmp z y)) fewer (x ∷ []) ∙ ap₂ (λ a b. a
            || b) (sub z (parts z e).0) (parts z e).1) new.1,
      ))
      (λ _. new_filter p (seen ++ x ∷ []) fewer xs (λ z e. sub z (parts z e).0) new.1)

  -- some elements of a list without repeats
  pub firsts_filter : (p : K → Bool) (xs : List K) → firsts_of cmp xs ≡ xs → filter p xs ≡ firsts_of cmp (filter p xs)
  firsts_filter p xs is = sym (kept_new [] (filter p xs) (new_filter p [] [] xs (λ z e. e) (new_kept [] xs is)))

  -- one element more
  pub firsts_push : (xs : List K) (x : K) → firsts_of cmp xs ≡ xs → add_new cmp xs x ≡ firsts_of cmp (xs ++ x ∷ [])
  firsts_push xs x is = sym (fold_push (add_new cmp) [] xs x ∙ ap (λ l. add_new cmp l x) is)

  module _ (o : IsTotalOrder cmp) where
    up_filter : (p : K → Bool) (xs : List K) → Ascends cmp xs → Ascends cmp (filter p xs)
    unfolding Ascends
    up_filter p [] up = tt
    up_filter p (x ∷ xs) up =
        cond_both (p x) (x ∷ filter p xs) (filter p xs) (Ascends cmp)
        (λ _. (all_filter (λ y. is_gt (cmp x y) ≡ false) p xs up.0, up_filter p xs up.1))
        (λ _. up_filter p xs up.1)

    up_common : (xs ys : List K) → Ascends cmp xs → Ascends cmp (common_of cmp xs ys)
    unfolding Ascends
    up_common [] ys up = tt
    up_common (x ∷ xs) ys up =
        cond_both (has cmp ys x) (x ∷ common_of cmp xs (without_one cmp ys x)) (common_of cmp xs ys) (Ascends cmp)
        (λ _. (all_common (λ y. is_gt (cmp x y) ≡ false) xs (without_one cmp ys x) up.0, up_common xs (without_one cmp ys x) up.1))
        (λ _. up_common xs ys up.1)

    -- some elements of a list in order
    pub bag_filter : (p : K → Bool) (xs : List K) → IsSorted cmp xs → filter p xs ≡ bag_of cmp (filter p xs)
    bag_filter p xs up = sym (bag_same o (filter p xs) (up_filter p xs (Ascends-from_sort cmp o xs up)))

    pub bag_common : (xs ys : List K) → IsSorted cmp xs → common_of cmp xs ys ≡ bag_of cmp (common_of cmp xs ys)
    bag_common xs ys up = sym (bag_same o (common_of cmp xs ys) (up_common xs ys (Ascends-from_sort cmp o xs up)))

    has_within : (xs ys : List K) (z : K) → has cmp (within cmp xs ys) z ≡ (has cmp ys z && has cmp xs z)
    has_within xs ys z = has-filter o (λ x. has cmp ys x) (λ x y e. has_alike o ys x y e) xs z

    -- what a set shares with a list, from either side
    pub set_within : IsAntisymmetric cmp → (xs ys : List K) → set_of cmp ys ≡ ys → within cmp ys xs ≡ set_of cmp (within cmp xs ys)
    set_within exact xs ys is =
        is_set o exact (within cmp ys xs) (within cmp xs ys) (IsStrictlySortedBy-filter cmp (λ y. has cmp xs y) ys (rises o ys is))
        (λ z. has_within ys xs z ∙ and_swap (has cmp xs z) (has cmp ys z) ∙ sym (has_within xs ys z))
