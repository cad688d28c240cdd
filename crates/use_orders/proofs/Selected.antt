-- The elements beside which true stands, step by step, and what they keep.
use Rattle.std.proofs.Common.{◌≡◌, ◌++◌, ◌+◌, ◌<◌, ℕ, suc, Bool, true, false, cond, List, [], ◌∷◌, take, get_or, length, length-take, length-append}
use Rattle.std.proofs.Common.{refl, sym, ap, ◌∙◌, arith, IsSorted}
use Rattle.std.proofs.Common.{Ordering, Less, is_gt}
use Rattle.std.specs.Cmp.{IsTotalOrder}
use Rattle.std.specs.FinMap.{IsAntisymmetric}
use Rattle.std.specs.List.Sorted.{IsStrictlySortedBy}
use Rattle.std.proofs.lemmas.Bool.{cond_both}
use Rattle.std.proofs.lemmas.List.{take_more, length_push}
use Rattle.use_orders.specs.Canon.{bag_of, set_of, selected}
use Rattle.use_orders.proofs.Bags.{Ascends, Ascends-from_sort}
use Rattle.use_orders.proofs.Merged.{rises, is_set}
use Rattle.use_orders.proofs.Joined.{bag_same}
use Rattle.use_orders.proofs.Distinct.{all_selected}

cond_cons : {X : Type 0} (b : Bool) (y : X) (xs ys : List X) → y ∷ cond b xs ys ≡ cond b (y ∷ xs) (y ∷ ys)
cond_cons true y xs ys = refl
cond_cons false y xs ys = refl

short : (n : ℕ) (flags : List Bool) → n < length flags → length (take n flags) ≡ n
short n flags l =
    let is = length-take n flags in
    omega (arith, is, l)

module _ {X : Type 0} where
  selected_push : (xs : List X) (flags : List Bool) (x : X) (flag : Bool) → length flags ≡ length xs
      → selected (xs ++ x ∷ []) (flags ++ flag ∷ []) ≡ cond flag (selected xs flags ++ x ∷ []) (selected xs flags)
  selected_push [] [] x flag len = refl
  selected_push [] (b ∷ flags) x flag len = absurd (omega (arith, len))
  selected_push (y ∷ xs) [] x flag len = absurd (omega (arith, len))
  selected_push (y ∷ xs) (true ∷ flags) x flag len =
      ap (λ l. y ∷ l) (selected_push xs flags x flag (omega (arith, len))) ∙ cond_cons flag y (selected xs flags ++ x ∷ []) (selected xs flags)
  selected_push (y ∷ xs) (false ∷ flags) x flag len = selected_push xs flags x flag (omega (arith, len))

  -- a loop's step, over what an iterator gave
  pub next_selected : (xs : List X) (flags : List Bool) (i : ℕ) (x : X) (flag d : Bool) → i ≡ length xs → i < length flags → flag ≡ get_or flags i d
      → selected (xs ++ x ∷ []) (take (i + 1) flags) ≡ cond flag (selected xs (take i flags) ++ x ∷ []) (selected xs (take i flags))
  next_selected xs flags i x flag d at l is =
      ap (selected (xs ++ x ∷ [])) (take_more flags i d l ∙ ap (λ b. take i flags ++ b ∷ []) (sym is))
      ∙ selected_push xs (take i flags) x flag (short i flags l ∙ at)

  -- how far the iterator has come

  pub length_more : (xs : List X) (x : X) (i : ℕ) → i ≡ length xs → i + 1 ≡ length (xs ++ x ∷ [])
  length_more xs x i at =
      let n = length_push xs x in
      omega (arith, n, at)

  pub within : (xs : List X) (flags : List Bool) (ys left rest : List X) (x : X) (i : ℕ) → length flags ≡ length xs → xs ≡ ys ++ left → left ≡ x ∷ rest
      → i ≡ length ys → i < length flags
  within xs flags ys left rest x i len whole next at =
      let n = ap length (whole ∙ ap (λ l. ys ++ l) next) ∙ length-append ys (x ∷ rest) in
      let m : length (x ∷ rest) ≡ suc (length rest) = refl in
      omega (arith, n, m, at, len)

  -- the same over a slice
  pub selected_more : (xs : List X) (flags : List Bool) (i : ℕ) (x : X) (flag d : Bool) → i < length xs → length flags ≡ length xs → x ≡ get_or xs i x
      → flag ≡ get_or flags i d
      → selected (take (i + 1) xs) (take (i + 1) flags) ≡ cond flag (selected (take i xs) (take i flags) ++ x ∷ []) (selected (take i xs) (take i flags))
  selected_more xs flags i x flag d l len at is =
      let n = length-take i xs in
      ap (λ m. selected m (take (i + 1) flags)) (take_more xs i x l ∙ ap (λ v. take i xs ++ v ∷ []) (sym at))
      ∙ next_selected (take i xs) flags i x flag d (omega (arith, n, l)) (omega (arith, l, len)) is

-- what stays as it was

module _ {K : Type 0} {cmp : K → K → Ordering} (o : IsTotalOrder cmp) where
  rises_selected : (xs : List K) (flags : List Bool) → IsStrictlySortedBy cmp xs → IsStrictlySortedBy cmp (selected xs flags)
  unfolding IsStrictlySortedBy
  rises_selected [] flags up = tt
  rises_selected (x ∷ xs) [] up = tt
  rises_selected (x ∷ xs) (flag ∷ flags) up =
      cond_both flag (x ∷ selected xs flags) (selected xs flags) (IsStrictlySortedBy cmp)
      (λ _. (all_selected (λ y. cmp x y ≡ Less) xs flags up.0, rises_selected xs flags up.1))
      (λ _. rises_selected xs flags up.1)

  up_selected : (xs : List K) (flags : List Bool) → Ascends cmp xs → Ascends cmp (selected xs flags)
  unfolding Ascends
  up_selected [] flags up = tt
  up_selected (x ∷ xs) [] up = tt
  up_selected (x ∷ xs) (flag ∷ flags) up =
      cond_both flag (x ∷ selected xs flags) (selected xs flags) (Ascends cmp)
      (λ _. (all_selected (λ y. is_gt (cmp x y) ≡ false) xs flags up.0, up_selected xs flags up.1))
      (λ _. up_selected xs flags up.1)

  pub set_selected : IsAntisymmetric cmp → (xs : List K) (flags : List Bool) → set_of cmp xs ≡ xs → set_of cmp (selected xs flags) ≡ selected xs flags
  set_selected exact xs flags is = sym (is_set o exact (selected xs flags) (selected xs flags) (rises_selected xs flags (rises o xs is)) (λ z. refl))

  pub bag_selected : (xs : List K) (flags : List Bool) → IsSorted cmp xs → bag_of cmp (selected xs flags) ≡ selected xs flags
  bag_selected xs flags up = bag_same o (selected xs flags) (up_selected xs flags (Ascends-from_sort cmp o xs up))
