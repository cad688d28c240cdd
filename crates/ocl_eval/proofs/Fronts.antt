-- Values that take the last places of a list.
use Rattle.std.proofs.Common.{◌≡◌, ℕ, zero, suc, ◌+◌, ◌-◌, ◌<◌, List, [], ◌∷◌, ◌++◌, length, take, slice_set, refl, ap, arith}
use Rattle.ocl_eval.specs.Places.{front}

module _ {A : Type 0} where
  set_at : (l : List A) (n : ℕ) (x : A) → length l ≡ n + 1 → slice_set l n x ≡ take n l ++ x ∷ []
  set_at [] n x e = absurd (omega (arith, e))
  set_at (y ∷ []) zero x e = refl
  set_at (y ∷ z ∷ l) zero x e = absurd (omega (arith, e))
  set_at (y ∷ l) (suc n) x e = ap (λ r. y ∷ r) (set_at l n x (omega (arith, e)))

  set_two : (l : List A) (n m : ℕ) (x y : A) → m ≡ n + 1 → length l ≡ n + 2 → slice_set (slice_set l n x) m y ≡ take n l ++ x ∷ y ∷ []
  set_two [] n m x y e h = absurd (omega (arith, h))
  set_two (a ∷ []) n m x y e h = absurd (omega (arith, h))
  set_two (a ∷ b ∷ []) zero (suc zero) x y e h = refl
  set_two (a ∷ b ∷ c ∷ l) zero m x y e h = absurd (omega (arith, h))
  set_two (a ∷ b ∷ []) zero zero x y e h = absurd (omega (arith, e))
  set_two (a ∷ b ∷ []) zero (suc (suc m)) x y e h = absurd (omega (arith, e))
  set_two (a ∷ b ∷ l) (suc n) zero x y e h = absurd (omega (arith, e))
  set_two (a ∷ b ∷ l) (suc n) (suc m) x y e h = ap (λ r. a ∷ r) (set_two (b ∷ l) n m x y (omega (arith, e)) (omega (arith, h)))

  -- a value in the last place
  pub last_set : (l : List A) (at : ℕ) (x : A) → 0 < length l → at ≡ length l - 1 → slice_set l at x ≡ front 1 l ++ x ∷ []
  last_set l at x h e = rw e (set_at l (length l - 1) x (omega (arith, h)))

  -- values in the last two places
  pub last_two_set : (l : List A) (below at : ℕ) (x y : A) → 1 < length l → below ≡ length l - 2 → at ≡ length l - 1
      → slice_set (slice_set l below x) at y ≡ front 2 l ++ x ∷ y ∷ []
  last_two_set l below at x y h e k = rw (e, k) (set_two l (length l - 2) (length l - 1) x y (omega (arith, h)) (omega (arith, h)))
