-- What stands in a list from a place on.
use Rattle.std.proofs.Common.{◌≡◌, ℕ, zero, suc, ◌+◌, List, [], ◌∷◌, drop, Some, None, slice_get, length, ◌<◌, refl, ap, subst, arith}

module _ {X : Type 0} where
  drop_suc : (xs : List X) (i : ℕ) (x : X) → slice_get xs i ≡ Some x → drop i xs ≡ x ∷ drop (suc i) xs
  drop_suc [] i x e = (cc)
  drop_suc (y ∷ ys) zero x e = let s : y ≡ x = cc in ap (λ z. z ∷ ys) s
  drop_suc (y ∷ ys) (suc i) x e = drop_suc ys i x e

  pub drop_at : (xs : List X) (i : ℕ) (x : X) → slice_get xs i ≡ Some x → drop i xs ≡ x ∷ drop (i + 1) xs
  drop_at xs i x e =
      let next : suc i ≡ i + 1 = omega arith in
      subst (λ (n : ℕ). drop i xs ≡ x ∷ drop n xs) next (drop_suc xs i x e)

  pub none_past : (xs : List X) (i : ℕ) → slice_get xs i ≡ None → i < length xs → ⊥
  none_past [] i e low = omega (arith, low)
  none_past (x ∷ xs) zero e low = (cc)
  none_past (x ∷ xs) (suc i) e low = none_past xs i e (omega (arith, low))

  pub first_from : (xs : List X) (i : ℕ) → slice_get xs i ≡ slice_get (drop i xs) 0
  first_from [] zero = refl
  first_from [] (suc i) = refl
  first_from (x ∷ xs) zero = refl
  first_from (x ∷ xs) (suc i) = first_from xs i
