-- One element more of what is made of a list.
use Rattle.std.proofs.Common.{◌≡◌, ℕ, zero, suc, ◌+◌, ◌<◌, ◌≤◌, Bool, true, false, cond, nat_lt, List, [], ◌∷◌, ◌++◌, length, get_or, take, map, filter, refl, sym, ap, ◌∙◌, arith, append_assoc}
use Rattle.std.specs.List.{AllByRecursion, enumerate_from, join_with_byte}
use Rattle.std.proofs.lemmas.Bool.Decides.{nat_tests}
use Rattle.std.proofs.lemmas.List.Elements.{filter-append}
use Rattle.std.proofs.lemmas.List.{length-map, map-append}
use Rattle.class_decls.proofs.Numbered.{take-more}

each_from : {A B : Type 0} (f : ℕ × A → B) (n : ℕ) (xs : List A) (i : ℕ) (x : A) → i < length xs → x ≡ get_or xs i x →
    map f (enumerate_from n (take (i + 1) xs)) ≡ map f (enumerate_from n (take i xs)) ++ f (n + i, x) ∷ []
each_from f n [] i x h e = absurd (omega arith)
each_from f n (y ∷ ys) zero x h e = let k : n + 0 ≡ n = omega arith in rw (k, e) refl
each_from f n (y ∷ ys) (suc i) x h e =
    let k : suc i + 1 ≡ suc (i + 1) = omega arith in
    let m : n + suc i ≡ (n + 1) + i = omega arith in
    rw (k, m) (ap (λ l. f (n, y) ∷ l) (each_from f (n + 1) ys i x (omega arith) e))

-- of each element and its number
pub each_more : {A B : Type 0} (f : ℕ × A → B) (xs : List A) (i : ℕ) (x : A) → i < length xs → x ≡ get_or xs i x →
    map f (enumerate_from 0 (take (i + 1) xs)) ≡ map f (enumerate_from 0 (take i xs)) ++ f (i, x) ∷ []
each_more f xs i x h e = let z : 0 + i ≡ i = omega arith in rw z at (each_from f 0 xs i x h e)

-- the same of what the elements stand for
pub each_map : {A B C : Type 0} (f : ℕ × B → C) (g : A → B) (n : ℕ) (xs : List A) → map (λ p. f (p.0, g p.1)) (enumerate_from n xs) ≡ map f
    (enumerate_from n (map g xs))
each_map f g n [] = refl
each_map f g n (x ∷ xs) = ap (λ l. f (n, g x) ∷ l) (each_map f g (n + 1) xs)

one_kept : {A B : Type 0} (f : A → B) (b : Bool) (x : A) → map f (cond b (x ∷ []) []) ≡ cond b (f x ∷ []) []
one_kept f true x = refl
one_kept f false x = refl

-- of the elements that pass
pub kept_more : {A B : Type 0} (f : A → B) (test : A → Bool) (xs : List A) (i : ℕ) (x : A) → i < length xs → x ≡ get_or xs i x →
    map f (filter test (take (i + 1) xs)) ≡ map f (filter test (take i xs)) ++ cond (test x) (f x ∷ []) []
kept_more f test xs i x h e =
    ap (λ l. map f (filter test l)) (take-more xs i x h e)
    ∙ ap (map f) (filter-append test (take i xs) (x ∷ []))
    ∙ map-append f (filter test (take i xs)) (filter test (x ∷ []))
    ∙ ap (λ l. map f (filter test (take i xs)) ++ l) (one_kept f (test x) x)

-- texts joined by a byte, one more
pub joined_first : (c : ℕ) (x : List ℕ) → join_with_byte c (x ∷ []) ≡ x
joined_first c x = refl

pub joined_more : (c : ℕ) (xs : List (List ℕ)) (x : List ℕ) → 0 < length xs → join_with_byte c (xs ++ x ∷ []) ≡ (join_with_byte c xs ++ c ∷ []) ++ x
joined_more c [] x h = absurd (omega arith)
joined_more c (y ∷ []) x h = sym (append_assoc y (c ∷ []) x)
joined_more c (y ∷ z ∷ rest) x h =
    ap (λ l. y ++ (c ∷ l)) (joined_more c (z ∷ rest) x (omega arith))
    ∙ sym (append_assoc y (c ∷ join_with_byte c (z ∷ rest) ++ c ∷ []) x ∙ refl)
    ∙ ap (λ l. l ++ x) (sym (append_assoc y (c ∷ join_with_byte c (z ∷ rest)) (c ∷ [])))

taken : {A : Type 0} (xs : List A) (i : ℕ) → i ≤ length xs → length (take i xs) ≡ i
taken xs zero h = refl
taken [] (suc i) h = absurd (omega arith)
taken (x ∷ xs) (suc i) h = let e = taken xs i (omega arith) in omega arith

pub joined_next : (c : ℕ) (xs : List (List ℕ)) (x : List ℕ) (i : ℕ) → length xs ≡ i → (join_with_byte c xs ++ cond (nat_lt 0 i) (c ∷ []) []) ++ x
    ≡ join_with_byte c (xs ++ x ∷ [])
joined_next c [] x i e = let t : nat_lt 0 i ≡ false = grind (arith, nat_tests) in ap (λ b. cond b (c ∷ []) [] ++ x) t
joined_next c (y ∷ ys) x i e =
    let t : nat_lt 0 i ≡ true = grind (arith, nat_tests) in
    ap (λ b. (join_with_byte c (y ∷ ys) ++ cond b (c ∷ []) []) ++ x) t ∙ sym (joined_more c (y ∷ ys) x (omega arith))

pub texts_more : {A : Type 0} (f : A → List ℕ) (c : ℕ) (xs : List A) (i : ℕ) (x : A) → i < length xs → x ≡ get_or xs i x →
    (join_with_byte c (map f (take i xs)) ++ cond (nat_lt 0 i) (c ∷ []) []) ++ f x ≡ join_with_byte c (map f (take (i + 1) xs))
texts_more f c xs i x h e =
    joined_next c (map f (take i xs)) (f x) i (length-map (take i xs) f ∙ taken xs i (omega arith))
    ∙ ap (join_with_byte c) (sym (ap (map f) (take-more xs i x h e) ∙ map-append f (take i xs) (x ∷ [])))

-- numbers that are all low
pub all_low : (n : ℕ) (c : ℕ) (xs : List ℕ) → c ≤ n → AllByRecursion (λ p. p < c) xs → (k d : ℕ) → k < length xs → get_or xs k d < n
all_low n c [] h all k d i = absurd (omega arith)
all_low n c (x ∷ xs) h all zero d i = let low : x < c = all.0 in omega arith
all_low n c (x ∷ xs) h all (suc k) d i = all_low n c xs h all.1 k d (omega arith)
