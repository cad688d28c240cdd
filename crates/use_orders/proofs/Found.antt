-- What a binary search says of membership.
use Rattle.std.proofs.Common.{◌≡◌, ℕ, Bool, false, List, length, get_or, ◌||◌, [], ◌∷◌, refl, sym, ap, ap₂, ◌∙◌, arith, All, Result, Ok, Err, is_ok, IsSorted}
use Rattle.std.proofs.Common.{Ordering, is_eq, ⊎_elim}
use Rattle.std.specs.List.{list_any}
use Rattle.std.specs.Ordering.{ordering_reverse, eq_by_cmp}
use Rattle.std.proofs.lemmas.Cmp.{eq_by_cmp_equiv}
use Rattle.std.specs.Cmp.{IsTotalOrder}
use Rattle.std.specs.List.Sorted.{IsBinarySearchResult, IsSearchInRange}
use Rattle.std.proofs.lemmas.Bool.{cases_lt}
use Rattle.std.proofs.lemmas.List.Folds.{list_any_at, list_any_none}
use Rattle.std.proofs.lemmas.List.Sorted.{searchable_from_sorted}
use Rattle.use_orders.specs.Canon.{has}

module _ {K : Type 0} {cmp : K → K → Ordering} (o : IsTotalOrder cmp) where
  pub found_is_has : (xs : List K) (x : K) (r : Result ℕ ℕ) → IsSorted cmp xs → IsSearchInRange r (length xs) → IsBinarySearchResult (λ y. cmp y x) xs r
      → is_ok r ≡ has cmp xs x
  found_is_has xs x (Ok i) up inside at =
      sym (list_any_at (λ y. is_eq (cmp x y)) xs i x inside (ap is_eq (o.antisymm x (get_or xs i x) ∙ ap ordering_reverse (at x))))
  found_is_has xs x (Err i) up inside at =
      let parts = at (searchable_from_sorted o (λ a. a) xs x up) in
      let none : All (λ y. is_eq (cmp x y) ≡ false) xs = λ k d within.
      ap is_eq (o.antisymm x (get_or xs k d)) ∙ ⊎_elim
      (λ l. ap (λ r. is_eq (ordering_reverse r)) (parts.0 k d (omega arith) l))
      (λ l. ap (λ r. is_eq (ordering_reverse r)) (parts.1 k d l within))
      (cases_lt k i)
      in sym (list_any_none (λ y. is_eq (cmp x y)) xs none)

  pub any_is_has : {E : K → K → Bool} → ((x y : K) → E x y ≡ eq_by_cmp cmp x y) → (xs : List K) (x : K) → list_any (λ y. E y x) xs ≡ has cmp xs x
  any_is_has ties [] x = refl
  any_is_has ties (y ∷ ys) x = ap₂ (λ a b. a || b) (ties y x ∙ (eq_by_cmp_equiv o).symm y x) (any_is_has ties ys x)
