-- Two lists in order with the same elements are one list.
use Rattle.std.proofs.Common.{◌≡◌, ℕ, zero, suc, ◌+◌, ◌<◌, Bool, true, false, cond, List, [], ◌∷◌, get_or, refl, sym, ap, ap₂, ◌∙◌, subst, true≢false, arith}
use Rattle.std.proofs.Common.{IsPermutation, IsSorted, All, Ordering, Less, Equal, Greater, is_lt, is_eq, is_gt}
use Rattle.std.specs.Ordering.{ordering_reverse}
use Rattle.std.specs.Cmp.{IsTotalOrder}
use Rattle.std.specs.List.{AllByRecursion, AllPairs}
use Rattle.std.proofs.lemmas.Bool.{cond_both}
use Rattle.std.proofs.lemmas.Cmp.{upto, tied_itself, alike_right}
use Rattle.std.proofs.lemmas.List.Sums.{sum_by-cons}
use Rattle.std.proofs.lemmas.List.Sorted.{sorted_far, ranks_by, sum_by-IsPermutation}
use Rattle.std.proofs.lemmas.List.Elements.{recursion_from_All, All-from_recursion}
use Rattle.std.proofs.lemmas.List.Kept.{AllPairs-cons}
use Rattle.std.specs.FinMap.{IsAntisymmetric}
use Rattle.use_orders.specs.Canon.{insert_in, bag_of, times}

pub all_weaker : {X : Type 0} (P Q : X → Type 0) → ((x : X) → P x → Q x) → (xs : List X) → AllByRecursion P xs → AllByRecursion Q xs
all_weaker P Q f [] h = tt
all_weaker P Q f (x ∷ xs) h = (f x h.0, all_weaker P Q f xs h.1)

not_above : (r : Ordering) → is_lt (ordering_reverse r) ≡ false → is_gt r ≡ false
not_above Less h = refl
not_above Equal h = refl
not_above Greater h = absurd (true≢false h)

abbrev one_if : Bool → ℕ
one_if b = cond b 1 0

lt_up : (r : Ordering) → is_lt r ≡ true → is_gt r ≡ false
lt_up Less h = refl
lt_up Equal h = absurd (true≢false (sym h))
lt_up Greater h = absurd (true≢false (sym h))

pub lt_down : (r : Ordering) → is_lt r ≡ false → is_gt (ordering_reverse r) ≡ false
lt_down Less h = absurd (true≢false h)
lt_down Equal h = refl
lt_down Greater h = refl

pub not_under : (r : Ordering) → is_gt r ≡ false → is_lt (ordering_reverse r) ≡ false
not_under Less h = refl
not_under Equal h = refl
not_under Greater h = absurd (true≢false h)

pub by_rank : (G : Type 0) (r : Ordering) → (r ≡ Less → G) → (r ≡ Equal → G) → (r ≡ Greater → G) → G
by_rank G Less f g h = f refl
by_rank G Equal f g h = g refl
by_rank G Greater f g h = h refl

gt_eq : (r : Ordering) → r ≡ Less → is_eq r ≡ false
gt_eq r e = ap is_eq e

module _ {K : Type 0} (cmp : K → K → Ordering) where
  unfoldable pub Ascends : List K → Type 0
  Ascends [] = Unit {0}
  Ascends (x ∷ xs) = AllByRecursion (λ y. is_gt (cmp x y) ≡ false) xs × Ascends xs

  pub times-cons : (x : K) (xs : List K) (z : K) → times cmp (x ∷ xs) z ≡ cond (is_eq (cmp z x)) 1 0 + times cmp xs z
  times-cons x xs z = sum_by-cons (λ y. cond (is_eq (cmp z y)) 1 0) x xs

  pub times-insert_in : (ys : List K) (x z : K) → times cmp (insert_in cmp ys x) z ≡ cond (is_eq (cmp z x)) 1 0 + times cmp ys z
  times-insert_in [] x z = times-cons x [] z
  times-insert_in (y ∷ ys) x z =
      let later = times-insert_in ys x z in
      let one = times-cons y ys z in
      let put = times-cons y (insert_in cmp ys x) z in
      cond_both (is_lt (cmp y x)) (y ∷ insert_in cmp ys x) (x ∷ y ∷ ys) (λ l. times cmp l z ≡ cond (is_eq (cmp z x)) 1 0 + times cmp (y ∷ ys) z)
      (λ _. omega (arith, later, one, put))
      (λ _. times-cons x (y ∷ ys) z)

  pub times-bag_of : (xs : List K) (z : K) → times cmp (bag_of cmp xs) z ≡ times cmp xs z
  times-bag_of [] z = refl
  times-bag_of (x ∷ xs) z =
      let a = times-insert_in (bag_of cmp xs) x z in
      let b = times-bag_of xs z in
      let c = times-cons x xs z in
      omega (arith, a, b, c)

  pub all-insert_in : (P : K → Type 0) (ys : List K) (x : K) → P x → AllByRecursion P ys → AllByRecursion P (insert_in cmp ys x)
  all-insert_in P [] x one all = (one, tt)
  all-insert_in P (y ∷ ys) x one all =
      cond_both (is_lt (cmp y x)) (y ∷ insert_in cmp ys x) (x ∷ y ∷ ys) (AllByRecursion P)
      (λ _. (all.0, all-insert_in P ys x one all.1))
      (λ _. (one, all))

  module _ (o : IsTotalOrder cmp) where
    pub Ascends-insert_in : (ys : List K) (x : K) → Ascends ys → Ascends (insert_in cmp ys x)
    unfolding Ascends
    Ascends-insert_in [] x up = (tt, tt)
    Ascends-insert_in (y ∷ ys) x up =
        cond_both (is_lt (cmp y x)) (y ∷ insert_in cmp ys x) (x ∷ y ∷ ys) Ascends
        (λ l. (all-insert_in (λ w. is_gt (cmp y w) ≡ false) ys x (lt_up (cmp y x) l) up.0, Ascends-insert_in ys x up.1))
        (λ l.
        let low : is_gt (cmp x y) ≡ false = ap is_gt (o.antisymm x y) ∙ lt_down (cmp y x) l in
        ((low, all_weaker (λ w. is_gt (cmp y w) ≡ false) (λ w. is_gt (cmp x w) ≡ false) (λ w g. upto o x y w low g) ys up.0), up))

    pub Ascends-bag_of : (xs : List K) → Ascends (bag_of cmp xs)
    unfolding Ascends
    Ascends-bag_of [] = tt
    Ascends-bag_of (x ∷ xs) = Ascends-insert_in (bag_of cmp xs) x (Ascends-bag_of xs)

    ascends_from_pairs : (xs : List K) → AllPairs (λ a b. is_lt (cmp b a) ≡ false) xs → Ascends xs
    unfolding Ascends
    ascends_from_pairs [] up = tt
    ascends_from_pairs (x ∷ xs) up =
        let head : All (λ y. is_gt (cmp x y) ≡ false) xs = λ j d inside. not_above (cmp x (get_or xs j d)) (sym (ap is_lt (o.antisymm (get_or xs j d) x))
        ∙ up zero (suc j) d (omega arith) (omega arith)) in (
          recursion_from_All (λ y. is_gt (cmp x y) ≡ false) xs head,
          ascends_from_pairs xs (λ i j d below inside. up (suc i) (suc j) d (omega arith)
              (omega arith)),
        )

    pub Ascends-from_sort : (xs : List K) → IsSorted cmp xs → Ascends xs
    Ascends-from_sort xs h = ascends_from_pairs xs (λ i j d below inside. sorted_far _ (ranks_by o (λ a. a)) xs h i j d (omega arith) inside)

    pub under : (x y w : K) (r : Ordering) → cmp y w ≡ r → is_gt r ≡ false → cmp x y ≡ Less → cmp x w ≡ Less
    under x y w Less is g l = o.trans x y w l is
    under x y w Equal is g l = sym (alike_right o y w x is) ∙ l
    under x y w Greater is g l = absurd (true≢false g)

    -- z is below all of ys
    pub times_below : (z : K) (ys : List K) → AllByRecursion (λ y. cmp z y ≡ Less) ys → times cmp ys z ≡ 0
    times_below z [] h = refl
    times_below z (y ∷ ys) h =
        let one = times-cons y ys z in
        let rest = times_below z ys h.1 in
        let none : one_if (is_eq (cmp z y)) ≡ 0 = ap (λ r. one_if (is_eq r)) h.0 in
        omega (arith, one, rest, none)

    times_self : (x : K) (xs : List K) → 0 < times cmp (x ∷ xs) x
    times_self x xs =
        let one = times-cons x xs x in
        let self : one_if (is_eq (cmp x x)) ≡ 1 = ap (λ r. one_if (is_eq r)) (tied_itself o x) in
        omega (arith, one, self)

    -- a list with an element below all of another has not the same elements
    apart : (x : K) (xs : List K) (y : K) (ys : List K) → cmp x y ≡ Less → AllByRecursion (λ w. is_gt (cmp y w) ≡ false) ys
        → times cmp (x ∷ xs) x ≡ times cmp (y ∷ ys) x → ⊥
    apart x xs y ys l up same =
        let all : AllByRecursion (λ w. cmp x w ≡ Less) (y ∷ ys) = (
          l,
          all_weaker (λ w. is_gt (cmp y w) ≡ false) (λ w. cmp x w ≡ Less) (λ w g. under x y w
              (cmp y w) refl g l) ys up,
        ) in
        let none = times_below x (y ∷ ys) all in
        let some = times_self x xs in
        omega (arith, same, none, some)

    rest : (x y : K) → cmp x y ≡ Equal → (xs ys : List K) (z : K) → times cmp (x ∷ xs) z ≡ times cmp (y ∷ ys) z → times cmp xs z ≡ times cmp ys z
    rest x y is xs ys z same =
        let a = times-cons x xs z in
        let b = times-cons y ys z in
        let alike : one_if (is_eq (cmp z x)) ≡ one_if (is_eq (cmp z y)) = ap (λ r. one_if (is_eq r)) (alike_right o x y z is) in
        omega (arith, a, b, alike, same)

    pub turned : (x y : K) → cmp x y ≡ Greater → cmp y x ≡ Less
    turned x y e = o.antisymm y x ∙ ap ordering_reverse e

    pub same_bags : IsAntisymmetric cmp → (xs ys : List K) → Ascends xs → Ascends ys → ((z : K) → times cmp xs z ≡ times cmp ys z) → xs ≡ ys
    unfolding Ascends
    same_bags exact [] [] up up' same = refl
    same_bags exact [] (y ∷ ys) up up' same =
        let some = times_self y ys in
        let is = same y in
        let none : times cmp [] y ≡ 0 = refl in
        absurd (omega (arith, some, is, none))
    same_bags exact (x ∷ xs) [] up up' same =
        let some = times_self x xs in
        let is = same x in
        let none : times cmp [] x ≡ 0 = refl in
        absurd (omega (arith, some, is, none))
    same_bags exact (x ∷ xs) (y ∷ ys) up up' same =
        by_rank (x ∷ xs ≡ y ∷ ys) (cmp x y)
        (λ is. absurd (apart x xs y ys is up'.0 (same x)))
        (λ is. ap₂ (λ v vs. v ∷ vs) (exact x y is) (same_bags exact xs ys up.1 up'.1 (λ z. rest x y is xs ys z (same z))))
        (λ is. absurd (apart y ys x xs (turned x y is) up.0 (sym (same y))))

    -- what a sort leaves
    pub bag_from_sort : IsAntisymmetric cmp → (xs ys : List K) → IsPermutation xs ys → IsSorted cmp ys → ys ≡ bag_of cmp xs
    bag_from_sort exact xs ys moved up =
        same_bags exact ys (bag_of cmp xs) (Ascends-from_sort ys up) (Ascends-bag_of xs)
        (λ z. sum_by-IsPermutation (λ y. cond (is_eq (cmp z y)) 1 0) xs ys moved ∙ sym (times-bag_of xs z))

    pub bag_bag : IsAntisymmetric cmp → (xs : List K) → bag_of cmp (bag_of cmp xs) ≡ bag_of cmp xs
    bag_bag exact xs =
        same_bags exact (bag_of cmp (bag_of cmp xs)) (bag_of cmp xs) (Ascends-bag_of (bag_of cmp xs)) (Ascends-bag_of xs) (times-bag_of (bag_of cmp xs))

    up_pairs : (xs : List K) → Ascends xs → AllPairs (λ a b. is_lt (cmp b a) ≡ false) xs
    unfolding Ascends
    up_pairs [] up = λ i j d below inside. absurd (omega arith)
    up_pairs (x ∷ xs) up =
        AllPairs-cons (λ a b. is_lt (cmp b a) ≡ false) x xs
        (All-from_recursion (λ y. is_lt (cmp y x) ≡ false) xs (all_weaker (λ y. is_gt (cmp x y) ≡ false) (λ y. is_lt (cmp y x) ≡ false) (λ y g. ap is_lt
        (o.antisymm y x) ∙ not_under (cmp x y) g) xs up.0))
        (up_pairs xs up.1)

    pub sorted_up : (xs : List K) → Ascends xs → IsSorted cmp xs
    sorted_up xs up k d low high = up_pairs xs up k (k + 1) d (omega arith) high

    pub sorted_bag : (xs : List K) → bag_of cmp xs ≡ xs → IsSorted cmp xs
    sorted_bag xs is = sorted_up xs (subst Ascends is (Ascends-bag_of xs))
