-- A stable sort has one answer.
use Rattle.std.proofs.Common.{◌≡◌, ◌&&◌, not, Bool, true, false, cond, List, [], ◌∷◌, filter, refl, sym, ap, ap₂, ◌∙◌, true≢false, IsSorted, Ordering, Less}
use Rattle.std.proofs.Common.{Equal, Greater, is_lt, is_eq, is_gt}
use Rattle.std.specs.Ordering.{ordering_reverse}
use Rattle.std.specs.Cmp.{IsTotalOrder}
use Rattle.std.specs.List.{AllByRecursion}
use Rattle.std.specs.List.Sorted.{IsStable, ties}
use Rattle.std.proofs.lemmas.Bool.{cond_both}
use Rattle.std.proofs.lemmas.Cmp.{tied_itself, alike_right}
use Rattle.std.proofs.lemmas.List.Elements.{filter_agree}
use Rattle.use_orders.specs.Canon.{insert_in, bag_of}
use Rattle.use_orders.proofs.Bags.{Ascends, Ascends-from_sort, Ascends-bag_of, all_weaker, under, turned, by_rank}
use Rattle.use_orders.proofs.Sets.{equal}

tie_test : (r : Ordering) → (not (is_lt r) && not (is_lt (ordering_reverse r))) ≡ is_eq r
tie_test Less = refl
tie_test Equal = refl
tie_test Greater = refl

abbrev is_empty : {K : Type 0} → List K → Bool
is_empty [] = true
is_empty (x ∷ xs) = false

abbrev head_or : {K : Type 0} → List K → K → K
head_or [] d = d
head_or (x ∷ xs) d = x

abbrev tail : {K : Type 0} → List K → List K
tail [] = []
tail (x ∷ xs) = xs

cancel : {K : Type 0} (a b : Bool) (x y : K) (p q : List K) → a ≡ b → cond a (x ∷ p) p ≡ cond b (y ∷ q) q → p ≡ q
cancel true true x y p q e same = ap tail same
cancel true false x y p q e same = absurd (true≢false e)
cancel false true x y p q e same = absurd (true≢false (sym e))
cancel false false x y p q e same = same

trade : {K : Type 0} (a b : Bool) (x y : K) (p : List K) → (a ≡ true → b ≡ true → ⊥)
    → cond b (y ∷ cond a (x ∷ p) p) (cond a (x ∷ p) p) ≡ cond a (x ∷ cond b (y ∷ p) p) (cond b (y ∷ p) p)
trade true true x y p never = absurd (never refl refl)
trade true false x y p never = refl
trade false true x y p never = refl
trade false false x y p never = refl

module _ {K : Type 0} {cmp : K → K → Ordering} (o : IsTotalOrder cmp) where
  abbrev alike : K → List K → List K
  alike z xs = filter (λ y. is_eq (cmp z y)) xs

  none_alike : (z : K) (ys : List K) → AllByRecursion (λ y. cmp z y ≡ Less) ys → alike z ys ≡ []
  none_alike z [] h = refl
  none_alike z (y ∷ ys) h = ap (λ r. cond (is_eq r) (y ∷ alike z ys) (alike z ys)) h.0 ∙ none_alike z ys h.1

  own_alike : (x : K) (xs : List K) → alike x (x ∷ xs) ≡ x ∷ alike x xs
  own_alike x xs = ap (λ r. cond (is_eq r) (x ∷ alike x xs) (alike x xs)) (tied_itself o x)

  apart : (x : K) (xs : List K) (y : K) (ys : List K) → cmp x y ≡ Less → AllByRecursion (λ w. is_gt (cmp y w) ≡ false) ys → alike x (x ∷ xs) ≡ alike x (y ∷ ys)
      → ⊥
  apart x xs y ys l up same =
      let all : AllByRecursion (λ w. cmp x w ≡ Less) (y ∷ ys) = (
        l,
        all_weaker (λ w. is_gt (cmp y w) ≡ false) (λ w. cmp x w ≡ Less) (λ w g. under cmp o x y w
            (cmp y w) refl g l) ys up,
      ) in
      true≢false (sym (ap is_empty (sym (own_alike x xs) ∙ same ∙ none_alike x (y ∷ ys) all)))

  pub same_stable : (xs ys : List K) → Ascends cmp xs → Ascends cmp ys → ((z : K) → alike z xs ≡ alike z ys) → xs ≡ ys
  unfolding Ascends
  same_stable [] [] up up' same = refl
  same_stable [] (y ∷ ys) up up' same = absurd (true≢false (ap is_empty (same y ∙ own_alike y ys)))
  same_stable (x ∷ xs) [] up up' same = absurd (true≢false (ap is_empty (sym (same x) ∙ own_alike x xs)))
  same_stable (x ∷ xs) (y ∷ ys) up up' same =
      by_rank (x ∷ xs ≡ y ∷ ys) (cmp x y)
      (λ is. absurd (apart x xs y ys is up'.0 (same x)))
      (λ is. ap₂ (λ v vs. v ∷ vs)
      (ap (λ l. head_or l x) (sym (own_alike x xs) ∙ same x ∙ ap (λ r. cond (is_eq r) (y ∷ alike x ys) (alike x ys)) is))
      (same_stable xs ys up.1 up'.1 (λ z. cancel (is_eq (cmp z x)) (is_eq (cmp z y)) x y (alike z xs) (alike z ys) (ap is_eq (alike_right o x y z is))
      (same z))))
      (λ is. absurd (apart y ys x xs (turned cmp o x y is) up.0 (sym (same y))))

  alike-insert_in : (ys : List K) (x z : K) → alike z (insert_in cmp ys x) ≡ cond (is_eq (cmp z x)) (x ∷ alike z ys) (alike z ys)
  alike-insert_in [] x z = refl
  alike-insert_in (y ∷ ys) x z =
      cond_both (is_lt (cmp y x)) (y ∷ insert_in cmp ys x) (x ∷ y ∷ ys) (λ l. alike z l ≡ cond (is_eq (cmp z x)) (x ∷ alike z (y ∷ ys)) (alike z (y ∷ ys)))
      (λ l. ap (λ p. cond (is_eq (cmp z y)) (y ∷ p) p) (alike-insert_in ys x z)
      ∙ trade (is_eq (cmp z x)) (is_eq (cmp z y)) x y (alike z ys)
      (λ a b. true≢false (sym l ∙ ap is_lt (sym (o.congr z y x (equal (cmp z y) b)) ∙ equal (cmp z x) a))))
      (λ _. refl)

  alike-bag_of : (xs : List K) (z : K) → alike z (bag_of cmp xs) ≡ alike z xs
  alike-bag_of [] z = refl
  alike-bag_of (x ∷ xs) z = alike-insert_in (bag_of cmp xs) x z ∙ ap (λ l. cond (is_eq (cmp z x)) (x ∷ l) l) (alike-bag_of xs z)

  -- what a stable sort leaves, whatever ties
  pub stable_from_sort : (xs ys : List K) → IsSorted cmp ys → IsStable cmp xs ys → ys ≡ bag_of cmp xs
  stable_from_sort xs ys up stable =
      let test : (z y : K) → ties (λ a b. is_lt (cmp a b)) z y ≡ is_eq (cmp z y) = λ z y. ap (λ r. not (is_lt (cmp z y)) && not (is_lt r)) (o.antisymm y z)
      ∙ tie_test (cmp z y) in
      same_stable ys (bag_of cmp xs) (Ascends-from_sort cmp o ys up) (Ascends-bag_of cmp o xs)
      (λ z. sym (filter_agree (ties (λ a b. is_lt (cmp a b)) z) (λ y. is_eq (cmp z y)) (test z) ys) ∙ stable z
      ∙ filter_agree (ties (λ a b. is_lt (cmp a b)) z) (λ y. is_eq (cmp z y)) (test z) xs ∙ sym (alike-bag_of xs z))
