-- A merge of two lists in order that keeps repeats, step by step.
use Rattle.std.proofs.Common.{◌≡◌, ℕ, ◌+◌, ◌<◌, ◌≤◌, ◌++◌, ◌⊎◌, inl, inr, ⊎_elim, true, false, cond, List, [], ◌∷◌, drop, get_or, length, refl, sym, ap, ap₂}
use Rattle.std.proofs.Common.{◌∙◌, subst, arith, append_assoc, append-nil, drop_of_length-le, IsSorted, Ordering, Less, Equal, Greater, is_lt, is_gt}
use Rattle.std.proofs.Common.{true≢false}
use Rattle.std.specs.Cmp.{IsTotalOrder}
use Rattle.std.specs.List.{AllByRecursion}
use Rattle.std.proofs.lemmas.Cmp.{upto}
use Rattle.use_orders.specs.Canon.{insert_in, bag_of}
use Rattle.use_orders.specs.Walks.{Progress}
use Rattle.use_orders.proofs.Bags.{Ascends, Ascends-from_sort, all_weaker, not_under, turned}
use Rattle.use_orders.proofs.Kept.{all_bag}
use Rattle.use_orders.proofs.Shared.{opened, Ascends-drop, above}

pub both : {K : Type 0} (P : K → Type 0) (xs ys : List K) → AllByRecursion P xs → AllByRecursion P ys → AllByRecursion P (xs ++ ys)
both P [] ys a b = b
both P (x ∷ xs) ys a b = (a.0, both P xs ys a.1 b)

greater : (r : Ordering) → is_gt r ≡ true → r ≡ Greater
greater Less e = absurd (true≢false (sym e))
greater Equal e = absurd (true≢false (sym e))
greater Greater e = refl

module _ {K : Type 0} {cmp : K → K → Ordering} (o : IsTotalOrder cmp) where
  first_in : (x : K) (l : List K) → AllByRecursion (λ w. is_lt (cmp w x) ≡ false) l → insert_in cmp l x ≡ x ∷ l
  first_in x [] h = refl
  first_in x (y ∷ ys) h = ap (λ b. cond b (y ∷ insert_in cmp ys x) (x ∷ y ∷ ys)) h.0

  not_lower : (x : K) (xs : List K) → AllByRecursion (λ w. is_gt (cmp x w) ≡ false) xs → AllByRecursion (λ w. is_lt (cmp w x) ≡ false) xs
  not_lower x xs up = all_weaker (λ w. is_gt (cmp x w) ≡ false) (λ w. is_lt (cmp w x) ≡ false) (λ w g. ap is_lt (o.antisymm w x) ∙ not_under (cmp x w) g) xs up

  -- a list in order is its own bag
  pub bag_same : (xs : List K) → Ascends cmp xs → bag_of cmp xs ≡ xs
  unfolding Ascends
  bag_same [] up = refl
  bag_same (x ∷ xs) up = ap (λ l. insert_in cmp l x) (bag_same xs up.1) ∙ first_in x xs (not_lower x xs up.0)

  take_first : (x : K) (xs : List K) (y : K) (ys : List K) → is_gt (cmp x y) ≡ false → Ascends cmp (x ∷ xs) → Ascends cmp (y ∷ ys)
      → bag_of cmp (x ∷ xs ++ y ∷ ys) ≡ x ∷ bag_of cmp (xs ++ y ∷ ys)
  unfolding Ascends
  take_first x xs y ys low up up' =
      let later = all_weaker (λ w. is_gt (cmp y w) ≡ false) (λ w. is_gt (cmp x w) ≡ false) (λ w g. upto o x y w low g) ys up'.0 in
      first_in x (bag_of cmp (xs ++ y ∷ ys))
      (all_bag cmp (λ w. is_lt (cmp w x) ≡ false) (xs ++ y ∷ ys) (not_lower x (xs ++ y ∷ ys) (both (λ w. is_gt (cmp x w) ≡ false) xs (y
      ∷ ys) up.0 (low, later))))

  pass : (y : K) (ys : List K) → Ascends cmp (y ∷ ys) → (xs : List K) → AllByRecursion (λ w. cmp y w ≡ Less) xs
      → bag_of cmp (xs ++ y ∷ ys) ≡ y ∷ bag_of cmp (xs ++ ys)
  unfolding Ascends
  pass y ys up [] h = first_in y (bag_of cmp ys) (all_bag cmp (λ w. is_lt (cmp w y) ≡ false) ys (not_lower y ys up.0))
  pass y ys up (x ∷ xs) h =
      ap (λ l. insert_in cmp l x) (pass y ys up xs h.1)
      ∙ ap (λ r. cond (is_lt r) (y ∷ insert_in cmp (bag_of cmp (xs ++ ys)) x) (x ∷ y ∷ bag_of cmp (xs ++ ys))) h.0

  module _ (a b : List K) (i j : ℕ) (x y : K) (up : IsSorted cmp a) (up' : IsSorted cmp b) (in_a : i < length a) (in_b : j < length b) (at : x ≡ get_or a i x)
      (at' : y ≡ get_or b j y) (out out' : List K) where
    open_a : drop i a ≡ x ∷ drop (i + 1) a
    open_a = opened a i x in_a at

    open_b : drop j b ≡ y ∷ drop (j + 1) b
    open_b = opened b j y in_b at'

    rises_a : Ascends cmp (x ∷ drop (i + 1) a)
    rises_a = subst (Ascends cmp) open_a (Ascends-drop cmp i a (Ascends-from_sort cmp o a up))

    rises_b : Ascends cmp (y ∷ drop (j + 1) b)
    rises_b = subst (Ascends cmp) open_b (Ascends-drop cmp j b (Ascends-from_sort cmp o b up'))

    onto : (v : K) (l rest : List K) → out' ≡ out ++ v ∷ [] → l ≡ v ∷ rest → out' ++ rest ≡ out ++ l
    onto v l rest push is = ap (λ m. m ++ rest) push ∙ append_assoc out (v ∷ []) rest ∙ ap (λ m. out ++ m) (sym is)

    pub first_joined : is_gt (cmp x y) ≡ false → out' ≡ out ++ x ∷ [] → Progress (λ xs ys. bag_of cmp (xs ++ ys)) a b i j out (i + 1) j out'
    first_joined low push =
        let is : bag_of cmp (drop i a ++ drop j b) ≡ x ∷ bag_of cmp (drop (i + 1) a ++ drop j b) =
        ap₂ (λ l m. bag_of cmp (l ++ m)) open_a open_b ∙ take_first x (drop (i + 1) a) y (drop (j + 1) b) low rises_a rises_b ∙ ap (λ m. x
        ∷ bag_of cmp (drop (i + 1) a ++ m)) (sym open_b) in
        record { same = onto x _ _ push is; further = omega arith; in_a = omega arith; in_b = omega arith }

    pub second_joined : is_gt (cmp x y) ≡ true → out' ≡ out ++ y ∷ [] → Progress (λ xs ys. bag_of cmp (xs ++ ys)) a b i j out i (j + 1) out'
    second_joined high push =
        let is : bag_of cmp (drop i a ++ drop j b) ≡ y ∷ bag_of cmp (drop i a ++ drop (j + 1) b) =
        ap₂ (λ l m. bag_of cmp (l ++ m)) open_a open_b
        ∙ pass y (drop (j + 1) b) rises_b (x ∷ drop (i + 1) a) (above cmp o y x (drop (i + 1) a) (turned cmp o x y (greater (cmp x y) high)) rises_a)
        ∙ ap (λ l. y ∷ bag_of cmp (l ++ drop (j + 1) b)) (sym open_a) in
        record { same = onto y _ _ push is; further = omega arith; in_a = omega arith; in_b = omega arith }

  left : (xs ys : List K) → Ascends cmp xs → Ascends cmp ys → (xs ≡ []) ⊎ (ys ≡ []) → xs ++ ys ≡ bag_of cmp (xs ++ ys)
  left xs ys up up' (inl e) = sym (bag_same (xs ++ ys) (subst (λ l. Ascends cmp (l ++ ys)) (sym e) up'))
  left xs ys up up' (inr e) = sym (bag_same (xs ++ ys) (subst (λ l. Ascends cmp (xs ++ l)) (sym e) (subst (Ascends cmp) (sym (append-nil xs)) up)))

  -- the rest of the side that is left
  pub joined : (a b out mid done whole : List K) (i j : ℕ) → IsSorted cmp a → IsSorted cmp b → mid ≡ out ++ drop i a → done ≡ mid ++ drop j b
      → (length a ≤ i) ⊎ (length b ≤ j) → out ++ bag_of cmp (drop i a ++ drop j b) ≡ whole → done ≡ whole
  joined a b out mid done whole i j up up' first second ends same =
      let rest = left (drop i a) (drop j b) (Ascends-drop cmp i a (Ascends-from_sort cmp o a up)) (Ascends-drop cmp j b (Ascends-from_sort cmp o b up')) (⊎_elim
      (λ l. inl (drop_of_length-le a l)) (λ l. inr (drop_of_length-le b l)) ends) in
      second ∙ ap (λ l. l ++ drop j b) first ∙ append_assoc out (drop i a) (drop j b) ∙ ap (λ l. out ++ l) rest ∙ same
