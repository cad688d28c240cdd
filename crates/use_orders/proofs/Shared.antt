-- What two lists in order share, step by step.
use Rattle.std.proofs.Common.{◌≡◌, subst, ◌||◌, ◌++◌, ◌+◌, ◌<◌, ◌⊎◌, inl, inr, ℕ, zero, suc, false, cond, List, [], ◌∷◌, drop, get_or, length, refl, sym, ap}
use Rattle.std.proofs.Common.{ap₂, ◌∙◌, IsSorted, Ordering, Less, Equal, Greater, is_eq, is_gt, arith, drop-cons, append_assoc}
use Rattle.std.specs.Ordering.{ordering_reverse}
use Rattle.std.specs.Cmp.{IsTotalOrder}
use Rattle.std.specs.List.{AllByRecursion}
use Rattle.use_orders.specs.Canon.{has, common_of, without_one}
use Rattle.use_orders.specs.Walks.{Progress}
use Rattle.use_orders.proofs.Bags.{Ascends, Ascends-from_sort, all_weaker, under, turned}
use Rattle.use_orders.proofs.Sets.{has_below}

pub opened : {K : Type 0} (xs : List K) (i : ℕ) (x : K) → i < length xs → x ≡ get_or xs i x → drop i xs ≡ x ∷ drop (i + 1) xs
opened xs i x l at =
    let n : suc i ≡ i + 1 = omega arith in
    drop-cons xs i x l ∙ ap₂ (λ v m. v ∷ drop m xs) (sym at) n

module _ {K : Type 0} (cmp : K → K → Ordering) where
  pub Ascends-drop : (n : ℕ) (xs : List K) → Ascends cmp xs → Ascends cmp (drop n xs)
  unfolding Ascends
  Ascends-drop zero xs up = up
  Ascends-drop (suc n) [] up = up
  Ascends-drop (suc n) (x ∷ xs) up = Ascends-drop n xs up.1

  none_common : (xs : List K) → common_of cmp xs [] ≡ []
  none_common [] = refl
  none_common (x ∷ xs) = none_common xs

  pub ended : (xs ys : List K) → (xs ≡ []) ⊎ (ys ≡ []) → common_of cmp xs ys ≡ []
  ended xs ys (inl e) = ap (λ l. common_of cmp l ys) e
  ended xs ys (inr e) = ap (common_of cmp xs) e ∙ none_common xs

  module _ (o : IsTotalOrder cmp) where
    pub above : (x y : K) (ys : List K) → cmp x y ≡ Less → Ascends cmp (y ∷ ys) → AllByRecursion (λ w. cmp x w ≡ Less) (y ∷ ys)
    unfolding Ascends
    above x y ys l up = (l, all_weaker (λ w. is_gt (cmp y w) ≡ false) (λ w. cmp x w ≡ Less) (λ w g. under cmp o x y w (cmp y w) refl g l) ys up.0)

    pass_first : (x : K) (xs : List K) (y : K) (ys : List K) → cmp x y ≡ Less → Ascends cmp (y ∷ ys)
        → common_of cmp (x ∷ xs) (y ∷ ys) ≡ common_of cmp xs (y ∷ ys)
    pass_first x xs y ys l up =
        ap (λ b. cond b (x ∷ common_of cmp xs (without_one cmp (y ∷ ys) x)) (common_of cmp xs (y ∷ ys))) (has_below o x (y ∷ ys) (above x y ys l up))

    take_both : (x : K) (xs : List K) (y : K) (ys : List K) → cmp x y ≡ Equal → common_of cmp (x ∷ xs) (y ∷ ys) ≡ x ∷ common_of cmp xs ys
    take_both x xs y ys e =
        ap (λ r. cond (is_eq r || has cmp ys x) (x ∷ common_of cmp xs (cond (is_eq r) ys (y ∷ without_one cmp ys x))) (common_of cmp xs (y ∷ ys))) e

    -- what is below all of a list is not shared
    skip : (y : K) (zs : List K) → AllByRecursion (λ w. cmp y w ≡ Less) zs → (ys : List K) → common_of cmp zs (y ∷ ys) ≡ common_of cmp zs ys
    skip y [] h ys = refl
    skip y (w ∷ zs) h ys =
        let apart : cmp w y ≡ Greater = o.antisymm w y ∙ ap ordering_reverse h.0 in
        ap (λ r. cond (is_eq r || has cmp ys w) (w ∷ common_of cmp zs (cond (is_eq r) ys (y ∷ without_one cmp ys w))) (common_of cmp zs (y ∷ ys))) apart
        ∙ ap₂ (λ p q. cond (has cmp ys w) (w ∷ p) q) (skip y zs h.1 (without_one cmp ys w)) (skip y zs h.1 ys)

    pass_second : (x : K) (xs : List K) (y : K) (ys : List K) → cmp x y ≡ Greater → Ascends cmp (x ∷ xs)
        → common_of cmp (x ∷ xs) (y ∷ ys) ≡ common_of cmp (x ∷ xs) ys
    pass_second x xs y ys g up = skip y (x ∷ xs) (above y x xs (turned cmp o x y g) up) ys

    module _ (a b : List K) (i j : ℕ) (x y : K) (up : IsSorted cmp a) (up' : IsSorted cmp b) (in_a : i < length a) (in_b : j < length b) (at : x ≡ get_or a i x)
        (at' : y ≡ get_or b j y) (out : List K) where
      open_a : drop i a ≡ x ∷ drop (i + 1) a
      open_a = opened a i x in_a at

      open_b : drop j b ≡ y ∷ drop (j + 1) b
      open_b = opened b j y in_b at'

      rises_a : Ascends cmp (x ∷ drop (i + 1) a)
      rises_a = subst (Ascends cmp) open_a (Ascends-drop i a (Ascends-from_sort cmp o a up))

      rises_b : Ascends cmp (y ∷ drop (j + 1) b)
      rises_b = subst (Ascends cmp) open_b (Ascends-drop j b (Ascends-from_sort cmp o b up'))

      pub first_passed : cmp x y ≡ Less → Progress (common_of cmp) a b i j out (i + 1) j out
      first_passed l =
          let is = ap₂ (common_of cmp) open_a open_b ∙ pass_first x (drop (i + 1) a) y (drop (j + 1) b) l rises_b
          ∙ ap (common_of cmp (drop (i + 1) a)) (sym open_b) in
          record { same = ap (λ l. out ++ l) (sym is); further = omega arith; in_a = omega arith; in_b = omega arith }

      pub second_passed : cmp x y ≡ Greater → Progress (common_of cmp) a b i j out i (j + 1) out
      second_passed g =
          let is = ap₂ (common_of cmp) open_a open_b ∙ pass_second x (drop (i + 1) a) y (drop (j + 1) b) g rises_a
          ∙ ap (λ l. common_of cmp l (drop (j + 1) b)) (sym open_a) in
          record { same = ap (λ l. out ++ l) (sym is); further = omega arith; in_a = omega arith; in_b = omega arith }

      pub both_taken : cmp x y ≡ Equal → (out' : List K) → out' ≡ out ++ x ∷ [] → Progress (common_of cmp) a b i j out (i + 1) (j + 1) out'
      both_taken e out' put =
          let is = ap₂ (common_of cmp) open_a open_b ∙ take_both x (drop (i + 1) a) y (drop (j + 1) b) e in
          record {
            same =
                ap (λ l. l ++ common_of cmp (drop (i + 1) a) (drop (j + 1) b)) put
                ∙ append_assoc out (x ∷ []) (common_of cmp (drop (i + 1) a) (drop (j + 1) b))
                ∙ ap (λ l. out ++ l) (sym is);
            further = omega arith;
            in_a = omega arith;
            in_b = omega arith;
          }
