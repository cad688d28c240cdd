-- What a set of references to the elements so far answers.
use Rattle.std.proofs.Common.{◌≡◌, ◌||◌, ◌&&◌, ◌++◌, ◌+◌, ◌<◌, ℕ, not, Bool, true, false, List, [], ◌∷◌, take, drop, get_or, length, refl, sym, ap, ap₂, ◌∙◌}
use Rattle.std.proofs.Common.{⊎_elim, true≢false}
use Rattle.std.proofs.Common.{Ordering, is_eq}
use Rattle.std.specs.Cmp.{IsTotalOrder}
use Rattle.std.proofs.Math.Bool.{and-false}
use Rattle.std.proofs.lemmas.Bool.{and_cases, and_right}
use Rattle.std.proofs.lemmas.List.{take_more, take-append-drop}
use Rattle.std.proofs.lemmas.List.Folds.{list_any-append}
use Rattle.use_orders.specs.Canon.{has, all_differ}
use Rattle.use_orders.proofs.Distinct.{push_differs}

was_there : (b : Bool) → not b ≡ false → b ≡ true
was_there true e = refl
was_there false e = absurd (true≢false e)

module _ {K : Type 0} (cmp : K → K → Ordering) where
  differ_prefix : (xs ys : List K) → all_differ cmp xs ≡ false → all_differ cmp (xs ++ ys) ≡ false
  differ_prefix [] ys e = absurd (true≢false e)
  differ_prefix (x ∷ xs) ys e =
      ⊎_elim
      (λ there. ap (λ b. not b && all_differ cmp (xs ++ ys)) (list_any-append (λ y. is_eq (cmp x y)) xs ys ∙ ap (λ b. b
      || has cmp ys x) (was_there (has cmp xs x) there)))
      (λ tied. and_right (not (has cmp (xs ++ ys) x)) (all_differ cmp (xs ++ ys)) (differ_prefix xs ys tied))
      (and_cases (not (has cmp xs x)) (all_differ cmp xs) e)

  module _ (o : IsTotalOrder cmp) where
    next_differs : (xs : List K) (i : ℕ) (x : K) → i < length xs → x ≡ get_or xs i x
        → all_differ cmp (take (i + 1) xs) ≡ (all_differ cmp (take i xs) && not (has cmp (take i xs) x))
    next_differs xs i x l at =
        ap (all_differ cmp) (take_more xs i x l)
        ∙ push_differs cmp o (take i xs) (get_or xs i x)
        ∙ ap (λ v. all_differ cmp (take i xs) && not (has cmp (take i xs) v)) (sym at)

    -- one element more that is new
    pub still_differ : (xs : List K) (i : ℕ) (x : K) → i < length xs → x ≡ get_or xs i x → all_differ cmp (take i xs) ≡ true
        → not (has cmp (take i xs) x) ≡ true → all_differ cmp (take (i + 1) xs) ≡ true
    still_differ xs i x l at so_far new = next_differs xs i x l at ∙ ap₂ (λ a b. a && b) so_far new

    -- an element that was there
    pub tie_found : (xs : List K) (i : ℕ) (x : K) → i < length xs → x ≡ get_or xs i x → not (has cmp (take i xs) x) ≡ false → all_differ cmp xs ≡ false
    tie_found xs i x l at old =
        sym (ap (all_differ cmp) (take-append-drop (i + 1) xs))
        ∙ differ_prefix (take (i + 1) xs) (drop (i + 1) xs)
        (next_differs xs i x l at ∙ ap (λ b. all_differ cmp (take i xs) && b) old ∙ and-false (all_differ cmp (take i xs)))
