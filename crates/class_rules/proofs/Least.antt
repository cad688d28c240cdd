-- The least number that passes a test.
use Rattle.std.proofs.Common.{◌≡◌, ℕ, zero, suc, ◌+◌, ◌-◌, ◌<◌, Bool, true, false, cond, Some, None, refl, ap₂, arith}
use Rattle.std.specs.Option.{option_or}
use Rattle.class_rules.specs.Numbering.{least_below}

pub least_none : (f : ℕ → Bool) (n : ℕ) → ((i : ℕ) → i < n → f i ≡ false) → least_below f n ≡ None
least_none f zero h = refl
least_none f (suc n) h = rw (least_none f n (λ i k. h i (omega arith)), h n (omega arith)) refl

-- one more that does not pass
pub least_more : (f : ℕ → Bool) (n : ℕ) → least_below f n ≡ None → f n ≡ false → least_below f (suc n) ≡ None
least_more f n h e = rw (h, e) refl

-- one that passes, where none below does
least_at : (f : ℕ → Bool) (n : ℕ) → least_below f n ≡ None → f n ≡ true → least_below f (suc n) ≡ Some n
least_at f n h e = rw (h, e) refl

least_up : (f : ℕ → Bool) (n k i : ℕ) → least_below f n ≡ Some i → least_below f (k + n) ≡ Some i
least_up f n zero i h = let e : 0 + n ≡ n = omega arith in rw e h
least_up f n (suc k) i h = let e : suc k + n ≡ suc (k + n) = omega arith in rw (e, least_up f n k i h) refl

pub least_found : (f : ℕ → Bool) (n i : ℕ) → least_below f i ≡ None → f i ≡ true → i < n → least_below f n ≡ Some i
least_found f n i h e k =
    let m : n ≡ (n - suc i) + suc i = omega arith in
    rw m (least_up f (suc i) (n - suc i) i (least_at f i h e))

pub least_alike : (f g : ℕ → Bool) (n : ℕ) → ((i : ℕ) → i < n → f i ≡ g i) → least_below f n ≡ least_below g n
least_alike f g zero h = refl
least_alike f g (suc n) h = ap₂ (λ o b. option_or o (cond b (Some n) None)) (least_alike f g n (λ i k. h i (omega arith))) (h n (omega arith))
