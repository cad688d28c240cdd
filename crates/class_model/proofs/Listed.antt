-- Numbers of elements that pass, one element after another.
use Rattle.std.proofs.Common.{◌≡◌, ℕ, zero, suc, ◌+◌, ◌<◌, Bool, true, false, cond, List, [], ◌∷◌, ◌++◌, length, get_or, take, fold, filter, Option, Some, None, refl, sym, ap, ◌∙◌, subst, arith, ⊎_elim, length-append}
use Rattle.std.proofs.Math.Seq.{get_or-append_seam}
use Rattle.std.proofs.lemmas.Bool.{cases_lt}
use Rattle.std.proofs.lemmas.List.{get_or_append_left}
use Rattle.std.specs.List.{cons_option, enumerate_from, filter_map, range_with_len}
use Rattle.std.proofs.lemmas.List.Elements.{filter-append}
use Rattle.class_model.specs.Features.{numbers_of}

-- what a test of each element and its number gives, counted from n
abbrev pub chosen : {A B : Type 0} → (ℕ × A → Option B) → ℕ → List A → List B
chosen f n xs = filter_map f (enumerate_from n xs)

after_option : {B : Type 0} (o : Option B) (xs ys : List B) → cons_option o (xs ++ ys) ≡ cons_option o xs ++ ys
after_option None xs ys = refl
after_option (Some x) xs ys = refl

pub chosen_more : {A B : Type 0} (f : ℕ × A → Option B) (n : ℕ) (xs : List A) (i : ℕ) (x : A) → i < length xs → x ≡ get_or xs i x →
    chosen f n (take (i + 1) xs) ≡ chosen f n (take i xs) ++ cons_option (f (n + i, x)) []
chosen_more f n [] i x h e = absurd (omega arith)
chosen_more f n (y ∷ ys) zero x h e = let k : n + 0 ≡ n = omega arith in rw (k, e) refl
chosen_more f n (y ∷ ys) (suc i) x h e =
    let k : suc i + 1 ≡ suc (i + 1) = omega arith in
    let m : n + suc i ≡ (n + 1) + i = omega arith in
    rw (k, m) (ap (cons_option (f (n, y))) (chosen_more f (n + 1) ys i x (omega arith) e)
    ∙ after_option (f (n, y)) (chosen f (n + 1) (take i ys)) (cons_option (f ((n + 1) + i, x)) []))

one_option : (b : Bool) (i : ℕ) → cons_option (cond b (Some i) None) [] ≡ cond b (i ∷ []) []
one_option true i = refl
one_option false i = refl

-- the same from nought on, of a test that tells whether to keep the number
pub kept_more : {A : Type 0} (test : ℕ × A → Bool) (xs : List A) (i : ℕ) (x : A) → i < length xs → x ≡ get_or xs i x →
    chosen (λ p. cond (test p) (Some p.0) None) 0 (take (i + 1) xs) ≡ chosen (λ p. cond (test p) (Some p.0) None) 0 (take i xs) ++ cond (test (i, x)) (i ∷ [])
    []
kept_more test xs i x h e =
    let z : 0 + i ≡ i = omega arith in
    rw z at (chosen_more (λ p. cond (test p) (Some p.0) None) 0 xs i x h e)
    ∙ ap (λ l. chosen (λ p. cond (test p) (Some p.0) None) 0 (take i xs) ++ l) (one_option (test (i, x)) i)

pub numbers_more : {A : Type 0} (test : A → Bool) (xs : List A) (i : ℕ) (x : A) → i < length xs → x ≡ get_or xs i x →
    numbers_of test (take (i + 1) xs) ≡ numbers_of test (take i xs) ++ cond (test x) (i ∷ []) []
numbers_more test xs i x h e = kept_more (λ p. test p.1) xs i x h e

-- numbers in a row
range_more : (n k : ℕ) → range_with_len n (k + 1) ≡ range_with_len n k ++ (n + k) ∷ []
range_more n zero = let z : n + 0 ≡ n = omega arith in rw z refl
range_more n (suc k) =
    let a : suc k + 1 ≡ suc (k + 1) = omega arith in
    let b : n + suc k ≡ (n + 1) + k = omega arith in
    rw (a, b) (ap (λ l. n ∷ l) (range_more (n + 1) k))

one_filter : (test : ℕ → Bool) (k : ℕ) → filter test (k ∷ []) ≡ cond (test k) (k ∷ []) []
one_filter test k = refl

pub range_filter : (test : ℕ → Bool) (k : ℕ) → filter test (range_with_len 0 (k + 1)) ≡ filter test (range_with_len 0 k) ++ cond (test k) (k ∷ []) []
range_filter test k =
    let z : 0 + k ≡ k = omega arith in
    ap (filter test) (rw z at (range_more 0 k)) ∙ filter-append test (range_with_len 0 k) (k ∷ [])

-- what is made of each number in a row, and whether it is there
pub each_more : {T : Type 0} (P : ℕ → T → Type 0) (ts : List T) (n : ℕ) (t : T) → length ts ≡ n → ((i : ℕ) (d : T) → i < n → P i (get_or ts i d)) → P n t →
    (i : ℕ) (d : T) → i < n + 1 → P i (get_or (ts ++ t ∷ []) i d)
each_more P ts n t size before here i d h =
    ⊎_elim
    (λ low. let k : i < length ts = omega arith in subst (P i) (sym (get_or_append_left ts (t ∷ []) d i k)) (before i d low))
    (λ high.
    let e : i ≡ length ts = omega arith in
    let f : n ≡ i = omega arith in
    subst (λ j. P j (get_or (ts ++ t ∷ []) j d)) (sym e) (subst (P (length ts)) (sym (get_or-append_seam ts t [] d)) (subst (λ j. P j t) (sym size) here)))
    (cases_lt i n)

pub size_more : {T : Type 0} (ts : List T) (n : ℕ) (t : T) → length ts ≡ n → length (ts ++ t ∷ []) ≡ n + 1
size_more ts n t e = let l = length-append ts (t ∷ []) in omega arith

pub default_alike : {A : Type 0} (xs : List A) (i : ℕ) (d e : A) → i < length xs → get_or xs i d ≡ get_or xs i e
default_alike [] i d e h = absurd (omega arith)
default_alike (x ∷ xs) zero d e h = refl
default_alike (x ∷ xs) (suc i) d e h = default_alike xs i d e (omega arith)
