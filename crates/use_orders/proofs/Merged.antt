-- What a merge of two lists in order, and a filter of one, have.
use Rattle.std.proofs.Common.{◌≡◌, ◌||◌, ◌&&◌, ◌++◌, Bool, true, false, List, [], ◌∷◌, filter, refl, sym, ap, ap₂, ◌∙◌, subst, Ordering, Less, Equal, is_eq}
use Rattle.std.proofs.Common.{is_gt, IsSorted}
use Rattle.std.specs.Cmp.{IsTotalOrder}
use Rattle.std.specs.List.{AllByRecursion}
use Rattle.std.specs.List.Sorted.{IsStrictlySortedBy}
use Rattle.std.specs.Set.{sorted_merge, merge_step}
use Rattle.std.proofs.lemmas.Cmp.{alike_right}
use Rattle.std.proofs.lemmas.List.Folds.{list_any-append}
use Rattle.std.proofs.lemmas.List.Kept.{IsStrictlySortedBy-filter}
use Rattle.std.proofs.lemmas.Map.Views.{any-filter_same}
use Rattle.std.specs.FinMap.{IsAntisymmetric}
use Rattle.use_orders.specs.Canon.{set_of, has}
use Rattle.use_orders.proofs.Bags.{Ascends, sorted_up, all_weaker}
use Rattle.use_orders.proofs.Sets.{match_all, swap_or, over, equal, has-set_of, rises-set_of, same_sets}

pub or_false : (a : Bool) → (a || false) ≡ a
or_false true = refl
or_false false = refl

pub or_assoc : (a b c : Bool) → ((a || b) || c) ≡ (a || (b || c))
or_assoc true b c = refl
or_assoc false b c = refl

or_twice : (a b c : Bool) → (a || (b || c)) ≡ ((a || b) || (a || c))
or_twice true b c = refl
or_twice false b c = refl

module _ {K : Type 0} {cmp : K → K → Ordering} (o : IsTotalOrder cmp) where
  -- a list that is its own set
  pub rises : (xs : List K) → set_of cmp xs ≡ xs → IsStrictlySortedBy cmp xs
  rises xs is = subst (IsStrictlySortedBy cmp) is (rises-set_of o xs)

  pub is_set : IsAntisymmetric cmp → (xs ys : List K) → IsStrictlySortedBy cmp xs → ((z : K) → has cmp xs z ≡ has cmp ys z) → xs ≡ set_of cmp ys
  is_set exact xs ys up same = same_sets o exact xs (set_of cmp ys) up (rises-set_of o ys) (λ z. same z ∙ sym (has-set_of o ys z))

  -- two things that tie answer alike
  pub has_alike : (ys : List K) (x y : K) → cmp x y ≡ Equal → has cmp ys x ≡ has cmp ys y
  has_alike [] x y e = refl
  has_alike (w ∷ ys) x y e = ap₂ (λ r b. is_eq r || b) (o.congr x y w e) (has_alike ys x y e)

  pub has-filter : (p : K → Bool) → ((x y : K) → cmp x y ≡ Equal → p x ≡ p y) → (xs : List K) (z : K) → has cmp (filter p xs) z ≡ (p z && has cmp xs z)
  has-filter p same xs z = any-filter_same (λ y. is_eq (cmp z y)) p (p z) (λ k e. sym (same z k (equal (cmp z k) e))) xs

  pub set_filter : IsAntisymmetric cmp → (p : K → Bool) (xs : List K) → set_of cmp xs ≡ xs → filter p xs ≡ set_of cmp (filter p xs)
  set_filter exact p xs is = is_set exact (filter p xs) (filter p xs) (IsStrictlySortedBy-filter cmp p xs (rises xs is)) (λ z. refl)

  all_step : (P : K → Type 0) (x : K) (xs : List K) (on : List K → List K) → P x → AllByRecursion P xs
      → ((zs : List K) → AllByRecursion P zs → AllByRecursion P (on zs)) → (ys : List K) → AllByRecursion P ys
      → AllByRecursion P (merge_step cmp true x xs on ys)
  all_step P x xs on one all go [] ys' = (one, all)
  all_step P x xs on one all go (y ∷ ys) h =
      match_all (AllByRecursion P) (cmp x y) (x ∷ on (y ∷ ys)) (x ∷ on ys) (y ∷ merge_step cmp true x xs on ys)
      (λ _. (one, go (y ∷ ys) h))
      (λ _. (one, go ys h.1))
      (λ _. (h.0, all_step P x xs on one all go ys h.1))

  all_merged : (P : K → Type 0) (xs ys : List K) → AllByRecursion P xs → AllByRecursion P ys → AllByRecursion P (sorted_merge cmp true xs ys)
  all_merged P [] ys a b = b
  all_merged P (x ∷ xs) ys a b = all_step P x xs (sorted_merge cmp true xs) a.0 a.1 (λ zs. all_merged P xs zs a.1) ys b

  rises_step : (x : K) (xs : List K) → IsStrictlySortedBy cmp (x ∷ xs)
      → ((zs : List K) → IsStrictlySortedBy cmp zs → IsStrictlySortedBy cmp (sorted_merge cmp true xs zs)) → (ys : List K) → IsStrictlySortedBy cmp ys
      → IsStrictlySortedBy cmp (sorted_merge cmp true (x ∷ xs) ys)
  unfolding IsStrictlySortedBy
  rises_step x xs up go [] h = up
  rises_step x xs up go (y ∷ ys) h =
      match_all (IsStrictlySortedBy cmp) (cmp x y) (x ∷ sorted_merge cmp true xs (y ∷ ys)) (x ∷ sorted_merge cmp true xs ys)
      (y ∷ sorted_merge cmp true (x ∷ xs) ys)
      (λ e. (
        all_merged (λ w. cmp x w ≡ Less) xs (y ∷ ys) up.0 (e, all_weaker (λ w. cmp y w ≡ Less) (λ w. cmp x w ≡ Less) (λ w l. o.trans x y w e l) ys h.0),
        go
            (y ∷ ys) h,
      ))
      (λ e. (
        all_merged (λ w. cmp x w ≡ Less) xs ys up.0 (all_weaker (λ w. cmp y w ≡ Less) (λ w. cmp x w ≡ Less) (λ w l. o.congr x y w e
            ∙ l) ys h.0),
        go ys h.1,
      ))
      (λ e. (
        all_merged (λ w. cmp y w ≡ Less) (x ∷ xs) ys (
          over o x y e,
          all_weaker (λ w. cmp x w ≡ Less) (λ w. cmp y w ≡ Less) (λ w l. o.trans y x w
              (over o x y e) l) xs up.0,
        ) h.0,
        rises_step x xs up go ys h.1,
      ))

  pub rises_merged : (xs ys : List K) → IsStrictlySortedBy cmp xs → IsStrictlySortedBy cmp ys → IsStrictlySortedBy cmp (sorted_merge cmp true xs ys)
  unfolding IsStrictlySortedBy
  rises_merged [] ys s t = t
  rises_merged (x ∷ xs) ys s t = rises_step x xs s (λ zs. rises_merged xs zs s.1) ys t

  -- a union, at each thing
  union_step : (x : K) (xs : List K) (z : K) → ((zs : List K) → has cmp (sorted_merge cmp true xs zs) z ≡ (has cmp xs z || has cmp zs z)) → (ys : List K)
      → has cmp (sorted_merge cmp true (x ∷ xs) ys) z ≡ (has cmp (x ∷ xs) z || has cmp ys z)
  union_step x xs z go [] = sym (or_false (has cmp (x ∷ xs) z))
  union_step x xs z go (y ∷ ys) =
      match_all (λ l. has cmp l z ≡ (has cmp (x ∷ xs) z || has cmp (y ∷ ys) z)) (cmp x y) (x ∷ sorted_merge cmp true xs (y ∷ ys))
      (x ∷ sorted_merge cmp true xs ys) (y ∷ sorted_merge cmp true (x ∷ xs) ys)
      (λ _. ap (λ b. is_eq (cmp z x) || b) (go (y ∷ ys)) ∙ sym (or_assoc (is_eq (cmp z x)) (has cmp xs z) (has cmp (y ∷ ys) z)))
      (λ e. ap (λ b. is_eq (cmp z x) || b) (go ys) ∙ or_twice (is_eq (cmp z x)) (has cmp xs z) (has cmp ys z) ∙ ap (λ r. (is_eq (cmp z x) || has cmp xs z)
      || (is_eq r || has cmp ys z)) (alike_right o x y z e))
      (λ _. ap (λ b. is_eq (cmp z y) || b) (union_step x xs z go ys) ∙ swap_or (is_eq (cmp z y)) (has cmp (x ∷ xs) z) (has cmp ys z))

  has_union : (xs ys : List K) (z : K) → has cmp (sorted_merge cmp true xs ys) z ≡ (has cmp xs z || has cmp ys z)
  has_union [] ys z = refl
  has_union (x ∷ xs) ys z = union_step x xs z (λ zs. has_union xs zs z) ys

  pub set_union : IsAntisymmetric cmp → (xs ys : List K) → set_of cmp xs ≡ xs → set_of cmp ys ≡ ys → sorted_merge cmp true xs ys ≡ set_of cmp (xs ++ ys)
  set_union exact xs ys a b =
      is_set exact (sorted_merge cmp true xs ys) (xs ++ ys) (rises_merged xs ys (rises xs a) (rises ys b))
      (λ z. has_union xs ys z ∙ sym (list_any-append (λ y. is_eq (cmp z y)) xs ys))

  pub up_from_rise : (xs : List K) → IsStrictlySortedBy cmp xs → Ascends cmp xs
  unfolding IsStrictlySortedBy Ascends
  up_from_rise [] up = tt
  up_from_rise (x ∷ xs) up = (all_weaker (λ y. cmp x y ≡ Less) (λ y. is_gt (cmp x y) ≡ false) (λ y e. ap is_gt e) xs up.0, up_from_rise xs up.1)

  pub sorted_set : (xs : List K) → set_of cmp xs ≡ xs → IsSorted cmp xs
  sorted_set xs is = sorted_up cmp o xs (up_from_rise xs (rises xs is))

  pub set_set : IsAntisymmetric cmp → (xs : List K) → set_of cmp (set_of cmp xs) ≡ set_of cmp xs
  set_set exact xs = sym (is_set exact (set_of cmp xs) (set_of cmp xs) (rises-set_of o xs) (λ z. refl))

  pub set_made : IsAntisymmetric cmp → (xs l : List K) → l ≡ set_of cmp xs → set_of cmp l ≡ l
  set_made exact xs l is = ap (set_of cmp) is ∙ set_set exact xs ∙ sym is
