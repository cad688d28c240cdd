-- Lists from the end on.
use Rattle.std.proofs.Common.{◌≡◌, ℕ, zero, suc, ◌+◌, ◌-◌, ◌<◌, ◌≤◌, List, [], ◌∷◌, length, get_or, drop, refl, sym, ap, ◌∙◌, arith}

pub drop_suc : {A : Type 0} (xs : List A) (k : ℕ) (x : A) → k < length xs → x ≡ get_or xs k x → drop k xs ≡ x ∷ drop (suc k) xs
drop_suc [] k x h e = absurd (omega arith)
drop_suc (y ∷ ys) zero x h e = ap (λ z. z ∷ ys) (sym e)
drop_suc (y ∷ ys) (suc k) x h e = drop_suc ys k x (omega arith) e

-- the elements from the one before place i on
pub drop_before : {A : Type 0} (xs : List A) (i : ℕ) (x : A) → 0 < i → i ≤ length xs → x ≡ get_or xs (i - 1) x → drop (i - 1) xs ≡ x ∷ drop i xs
drop_before xs i x low high e =
    let k : i ≡ suc (i - 1) = omega arith in
    drop_suc xs (i - 1) x (omega arith) e ∙ ap (λ j. x ∷ drop j xs) (sym k)

pub drop_all : {A : Type 0} (xs : List A) → drop (length xs) xs ≡ []
drop_all [] = refl
drop_all (x ∷ xs) = drop_all xs

-- the elements from place k on
pub drop_here : {A : Type 0} (xs : List A) (k : ℕ) (x : A) → k < length xs → x ≡ get_or xs k x → drop k xs ≡ x ∷ drop (k + 1) xs
drop_here xs k x h e =
    let j : k + 1 ≡ suc k = omega arith in
    drop_suc xs k x h e ∙ ap (λ i. x ∷ drop i xs) (sym j)
