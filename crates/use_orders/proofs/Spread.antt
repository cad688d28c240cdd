-- Each element of a list replaced by a list: what the first list repeats, or in which order it stands, changes no set, bag or first elements of the result.
use Rattle.std.proofs.Common.{◌≡◌, ◌||◌, ◌++◌, ◌+◌, Bool, true, false, cond, fold, List, [], ◌∷◌, refl, sym, ap, ap₂, ◌∙◌, subst, arith, append-nil}
use Rattle.std.proofs.Common.{append_assoc, true≢false}
use Rattle.std.proofs.Common.{Ordering, is_eq, is_lt}
use Rattle.std.specs.Cmp.{IsTotalOrder}
use Rattle.std.specs.FinMap.{IsAntisymmetric}
use Rattle.std.specs.List.{AllByRecursion}
use Rattle.std.proofs.lemmas.Bool.{cond_both}
use Rattle.std.proofs.lemmas.Cmp.{tied_itself}
use Rattle.std.proofs.lemmas.List.Folds.{list_any-append}
use Rattle.std.proofs.lemmas.List.Sums.{fold-append}
use Rattle.use_orders.specs.Canon.{has, times, insert_in, insert_new, add_new, bag_of, set_of, firsts_of}
use Rattle.use_orders.proofs.Bags.{all_weaker, times-cons, times-bag_of, same_bags, Ascends-bag_of}
use Rattle.use_orders.proofs.Sets.{match_all, swap_or, once_or, equal, has-set_of, rises-set_of, same_sets}
use Rattle.use_orders.proofs.Places.{has-firsts_of}

or-true : (a : Bool) → (a || true) ≡ true
or-true true = refl
or-true false = refl

as_cond : (a b : Bool) → cond a true b ≡ (a || b)
as_cond true b = refl
as_cond false b = refl

module _ {K : Type 0} (cmp : K → K → Ordering) where
  times-append : (xs ys : List K) (z : K) → times cmp (xs ++ ys) z ≡ times cmp xs z + times cmp ys z
  times-append [] ys z =
      let none : times cmp [] z ≡ 0 = refl in
      omega (arith, none)
  times-append (x ∷ xs) ys z =
      let rest = times-append xs ys z in
      let one = times-cons cmp x (xs ++ ys) z in
      let alone = times-cons cmp x xs z in
      omega (arith, rest, one, alone)

  has-append : (xs ys : List K) (z : K) → has cmp (xs ++ ys) z ≡ (has cmp xs z || has cmp ys z)
  has-append xs ys z = list_any-append (λ y. is_eq (cmp z y)) xs ys

-- `flat` puts the lists that f gives one after the other
module _ {K : Type 0} {cmp : K → K → Ordering} (o : IsTotalOrder cmp) (exact : IsAntisymmetric cmp) (f : K → List K) (flat : List K → List K)
    (none : flat [] ≡ []) (one_more : (x : K) (xs : List K) → flat (x ∷ xs) ≡ f x ++ flat xs) where
  -- bags

  times_more : (x : K) (xs : List K) (z : K) → times cmp (flat (x ∷ xs)) z ≡ times cmp (f x) z + times cmp (flat xs) z
  times_more x xs z = ap (λ l. times cmp l z) (one_more x xs) ∙ times-append cmp (f x) (flat xs) z

  times_put : (ys : List K) (x z : K) → times cmp (flat (insert_in cmp ys x)) z ≡ times cmp (f x) z + times cmp (flat ys) z
  times_put [] x z = times_more x [] z
  times_put (y ∷ ys) x z =
      cond_both (is_lt (cmp y x)) (y ∷ insert_in cmp ys x) (x ∷ y ∷ ys) (λ l. times cmp (flat l) z ≡ times cmp (f x) z + times cmp (flat (y ∷ ys)) z)
      (λ _.
      let put = times_more y (insert_in cmp ys x) z in
      let rest = times_put ys x z in
      let whole = times_more y ys z in
      omega (arith, put, rest, whole))
      (λ _. times_more x (y ∷ ys) z)

  times_flat : (xs : List K) (z : K) → times cmp (flat (bag_of cmp xs)) z ≡ times cmp (flat xs) z
  times_flat [] z = refl
  times_flat (x ∷ xs) z =
      let put = times_put (bag_of cmp xs) x z in
      let rest = times_flat xs z in
      let whole = times_more x xs z in
      omega (arith, put, rest, whole)

  pub bag_flat : (xs : List K) → bag_of cmp (flat (bag_of cmp xs)) ≡ bag_of cmp (flat xs)
  bag_flat xs =
      same_bags cmp o exact (bag_of cmp (flat (bag_of cmp xs))) (bag_of cmp (flat xs)) (Ascends-bag_of cmp o (flat (bag_of cmp xs)))
      (Ascends-bag_of cmp o (flat xs))
      (λ z. times-bag_of cmp (flat (bag_of cmp xs)) z ∙ times_flat xs z ∙ sym (times-bag_of cmp (flat xs) z))

  -- sets

  has_more : (x : K) (xs : List K) (z : K) → has cmp (flat (x ∷ xs)) z ≡ (has cmp (f x) z || has cmp (flat xs) z)
  has_more x xs z = ap (λ l. has cmp l z) (one_more x xs) ∙ has-append cmp (f x) (flat xs) z

  has_put : (ys : List K) (x z : K) → has cmp (flat (insert_new cmp ys x)) z ≡ (has cmp (f x) z || has cmp (flat ys) z)
  has_put [] x z = has_more x [] z
  has_put (y ∷ ys) x z =
      match_all (λ l. has cmp (flat l) z ≡ (has cmp (f x) z || has cmp (flat (y ∷ ys)) z)) (cmp x y) (x ∷ y ∷ ys) (y ∷ ys) (y ∷ insert_new cmp ys x)
      (λ _. has_more x (y ∷ ys) z)
      (λ e.
      has_more y ys z
      ∙ sym (once_or (has cmp (f y) z) (has cmp (flat ys) z))
      ∙ ap₂ (λ v b. has cmp (f v) z || b) (sym (exact x y e)) (sym (has_more y ys z)))
      (λ _.
      has_more y (insert_new cmp ys x) z
      ∙ ap (λ b. has cmp (f y) z || b) (has_put ys x z)
      ∙ swap_or (has cmp (f y) z) (has cmp (f x) z) (has cmp (flat ys) z)
      ∙ ap (λ b. has cmp (f x) z || b) (sym (has_more y ys z)))

  has_flat : (xs : List K) (z : K) → has cmp (flat (set_of cmp xs)) z ≡ has cmp (flat xs) z
  has_flat [] z = refl
  has_flat (x ∷ xs) z = has_put (set_of cmp xs) x z ∙ ap (λ b. has cmp (f x) z || b) (has_flat xs z) ∙ sym (has_more x xs z)

  pub set_flat : (xs : List K) → set_of cmp (flat (set_of cmp xs)) ≡ set_of cmp (flat xs)
  set_flat xs =
      same_sets o exact (set_of cmp (flat (set_of cmp xs))) (set_of cmp (flat xs)) (rises-set_of o (flat (set_of cmp xs))) (rises-set_of o (flat xs))
      (λ z. has-set_of o (flat (set_of cmp xs)) z ∙ has_flat xs z ∙ sym (has-set_of o (flat xs) z))

  -- first elements

  all_there : (seen l : List K) → AllByRecursion (λ z. has cmp seen z ≡ true) l → fold (add_new cmp) seen l ≡ seen
  all_there seen [] all = refl
  all_there seen (z ∷ l) all = ap (λ b. fold (add_new cmp) (cond b seen (seen ++ z ∷ [])) l) all.0 ∙ all_there seen l all.1

  own : (l : List K) → AllByRecursion (λ z. has cmp l z ≡ true) l
  own [] = tt
  own (x ∷ l) = (
    ap (λ r. is_eq r || has cmp l x) (tied_itself o x),
    all_weaker (λ z. has cmp l z ≡ true) (λ z. has cmp (x ∷ l) z ≡ true) (λ z e. ap (λ b. is_eq (cmp z x) || b) e ∙ or-true (is_eq (cmp z x))) l (own l),
  )

  -- what replaces an element is there
  covered : (seen : List K) (x : K) → has cmp seen x ≡ true → AllByRecursion (λ z. has cmp (flat seen) z ≡ true) (f x)
  covered [] x e = absurd (true≢false (sym e))
  covered (y ∷ ys) x e =
      let here : x ≡ y → AllByRecursion (λ z. has cmp (flat (y ∷ ys)) z ≡ true) (f x) =
      λ is. subst (λ v. AllByRecursion (λ z. has cmp (flat (y ∷ ys)) z ≡ true) (f v)) (sym is)
      (all_weaker (λ z. has cmp (f y) z ≡ true) (λ z. has cmp (flat (y ∷ ys)) z ≡ true) (λ z t. has_more y ys z ∙ ap (λ b. b
      || has cmp (flat ys) z) t) (f y) (own (f y))) in
      let later : has cmp ys x ≡ true → AllByRecursion (λ z. has cmp (flat (y ∷ ys)) z ≡ true) (f x) =
      λ t. all_weaker (λ z. has cmp (flat ys) z ≡ true) (λ z. has cmp (flat (y ∷ ys)) z ≡ true)
      (λ z u. has_more y ys z ∙ ap (λ b. has cmp (f y) z || b) u ∙ or-true (has cmp (f y) z)) (f x) (covered ys x t) in
      cond_both (is_eq (cmp x y)) true (has cmp ys x) (λ b. b ≡ true → AllByRecursion (λ z. has cmp (flat (y ∷ ys)) z ≡ true) (f x))
      (λ t _. here (exact x y (equal (cmp x y) t)))
      (λ _ t. later t)
      (as_cond (is_eq (cmp x y)) (has cmp ys x) ∙ e)

  flat_end : (xs : List K) (x : K) → flat (xs ++ x ∷ []) ≡ flat xs ++ f x
  flat_end [] x = one_more x [] ∙ ap (λ l. f x ++ l) none ∙ append-nil (f x) ∙ sym (ap (λ l. l ++ f x) none)
  flat_end (y ∷ xs) x =
      one_more y (xs ++ x ∷ []) ∙ ap (λ l. f y ++ l) (flat_end xs x) ∙ sym (append_assoc (f y) (flat xs) (f x)) ∙ ap (λ l. l ++ f x) (sym (one_more y xs))

  one_flat : (seen : List K) (x : K) → firsts_of cmp (flat (add_new cmp seen x)) ≡ fold (add_new cmp) (firsts_of cmp (flat seen)) (f x)
  one_flat seen x =
      cond_both (has cmp seen x) seen (seen ++ x ∷ []) (λ l. firsts_of cmp (flat l) ≡ fold (add_new cmp) (firsts_of cmp (flat seen)) (f x))
      (λ t. sym (all_there (firsts_of cmp (flat seen)) (f x)
      (all_weaker (λ z. has cmp (flat seen) z ≡ true) (λ z. has cmp (firsts_of cmp (flat seen)) z ≡ true) (λ z u. has-firsts_of o (flat seen) z
      ∙ u) (f x) (covered seen x t))))
      (λ _. ap (firsts_of cmp) (flat_end seen x) ∙ fold-append (add_new cmp) [] (flat seen) (f x))

  onto : (seen xs : List K) → firsts_of cmp (flat (fold (add_new cmp) seen xs)) ≡ fold (add_new cmp) (firsts_of cmp (flat seen)) (flat xs)
  onto seen [] = sym (ap (fold (add_new cmp) (firsts_of cmp (flat seen))) none)
  onto seen (x ∷ xs) =
      onto (add_new cmp seen x) xs
      ∙ ap (λ l. fold (add_new cmp) l (flat xs)) (one_flat seen x)
      ∙ sym (fold-append (add_new cmp) (firsts_of cmp (flat seen)) (f x) (flat xs))
      ∙ ap (fold (add_new cmp) (firsts_of cmp (flat seen))) (sym (one_more x xs))

  pub firsts_flat : (xs : List K) → firsts_of cmp (flat (firsts_of cmp xs)) ≡ firsts_of cmp (flat xs)
  firsts_flat xs = onto [] xs ∙ ap (λ l. fold (add_new cmp) (firsts_of cmp l) (flat xs)) none
