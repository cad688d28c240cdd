-- The integer that a text writes, by its bytes and by its characters.
use Rattle.std.proofs.Common.{◌≡◌, ◌≢◌, ◌==◌, ℕ, zero, suc, ◌+◌, ◌-◌, ◌*◌, ◌^◌, ◌<◌, ◌≤◌, List, [], ◌∷◌, length, get_or, fold, ap, sym, refl, ◌∙◌, subst}
use Rattle.std.proofs.Common.{Bool, true, false, true≢false, not, ◌&&◌, nat_eq, if◌then◌else◌, ℤ, pos, neg_ℤ, Result, Ok, Err, arith, rules}
use Rattle.std.specs.Int.{w128}
use Rattle.std.specs.Result.{OkIff, result_ok}
use Rattle.std.specs.Str.{all_ascii_digits, chars, IsUtf8, IsAscii}
use Rattle.std.specs.Str.Parse.{ParsesSigned}
use Rattle.std.proofs.lemmas.Bool.Decides.{nat_tests}
use Rattle.std.proofs.lemmas.Fmt.{IsAscii-from_digits}
use Rattle.std.proofs.lemmas.Str.{encodes-chars, encodes-IsAscii, chars-IsAscii}
use Rattle.std.proofs.lemmas.Str.Ascii.{IsAscii-cons}
use Rattle.std.proofs.lemmas.Str.Parse.{IsNumeralModel, numerals_by_fold, parse_signed_minus, parse_signed_plain}
use Rattle.ocl_values.specs.declared.value.Value.TheVariants.{Int, Invalid}
use Rattle.ocl_values.specs.Checked.{checked}
use Rattle.ocl_values.specs.Integers.{in_range, int_value}
use Rattle.ocl_values.specs.Strings.{is_numeral, number_of, integer_of}

abbrev read_on : ℕ → List ℕ → ℕ
read_on n cs = fold (λ m c. m * 10 + (c - 48)) n cs

own : IsNumeralModel (λ ds. all_ascii_digits ds ≡ true) (read_on 0)
own = numerals_by_fold _ (search rules) read_on (search rules)

-- tests

both : (a b : Bool) → (a && b) ≡ true → (a ≡ true) × (b ≡ true)
both true b e = (refl, e)
both false b e = absurd (true≢false (sym e))

and_false : (b : Bool) → (b && false) ≡ false
and_false true = refl
and_false false = refl

some_length : (n : ℕ) → not (nat_eq n 0) ≡ true → 0 < n
some_length zero e = absurd (true≢false (sym e))
some_length (suc n) e = omega arith

length_some : (n : ℕ) → 0 < n → not (nat_eq n 0) ≡ true
length_some n h = grind (arith, nat_tests)

numeral_parts : (cs : List ℕ) → is_numeral cs ≡ true → (all_ascii_digits cs ≡ true) × (0 < length cs)
numeral_parts cs e =
    let h = both (not (nat_eq (length cs) 0)) (all_ascii_digits cs) e in
    (h.1, some_length (length cs) h.0)

parts_numeral : (cs : List ℕ) → all_ascii_digits cs ≡ true → 0 < length cs → is_numeral cs ≡ true
parts_numeral cs all some = ap (λ b. b && all_ascii_digits cs) (length_some (length cs) some) ∙ all

negative_fits : (n : ℕ) → n ≤ 2 ^ 127 → in_range (neg_ℤ (pos n)) ≡ true
negative_fits zero h = refl
negative_fits (suc n) h = grind (arith, nat_tests)

fits_negative : (n : ℕ) → in_range (neg_ℤ (pos n)) ≡ true → n ≤ 2 ^ 127
fits_negative zero h = omega arith
fits_negative (suc n) h = grind (arith, nat_tests)

fits : (n : ℕ) → n < 2 ^ 127 → in_range (pos n) ≡ true
fits n h = grind (arith, nat_tests)

fitted : (n : ℕ) → in_range (pos n) ≡ true → n < 2 ^ 127
fitted n h = grind (arith, nat_tests)

-- what is read

left_out : (z : ℤ) (t : Bool) → ¬ (t ≡ true) → Invalid ≡ (if t then Int z else Invalid)
left_out z true h = absurd (h refl)
left_out z false h = refl

-- an answer that is there exactly where P holds, by tests of P
decided : {E : Type 0} (r : Result ℤ E) (P : Type 0) (z : ℤ) (b : Bool) → OkIff r P z → (b ≡ true → in_range z ≡ true → P)
    → (P → (b ≡ true) × (in_range z ≡ true)) → checked (result_ok r) ≡ (if b then int_value z else Invalid)
decided (Ok x) P z b h to from =
    let tests = from h.0 in
    ap Int h.1 ∙ sym (ap (λ t. if t then Int z else Invalid) tests.1) ∙ sym (ap (λ t. if t then int_value z else Invalid) tests.0)
decided (Err e) P z false h to from = refl
decided (Err e) P z true h to from = left_out z (in_range z) (λ t. h (to refl t))

after_minus : {E : Type 0} (r : Result ℤ E) (cs : List ℕ) → ParsesSigned w128 10 (45 ∷ cs) r
    → checked (result_ok r) ≡ (if is_numeral cs then int_value (neg_ℤ (pos (number_of cs))) else Invalid)
after_minus r cs h =
    decided r ((all_ascii_digits cs ≡ true) × (0 < length cs) × (number_of cs ≤ 2 ^ 127)) (neg_ℤ (pos (number_of cs))) (is_numeral cs)
    (parse_signed_minus own w128 (45 ∷ cs) r h refl)
    (λ e t. let p = numeral_parts cs e in (p.0, p.1, fits_negative (number_of cs) t))
    (λ p. (parts_numeral cs p.0 p.1, negative_fits (number_of cs) p.2))

plain : {E : Type 0} (r : Result ℤ E) (cs : List ℕ) → ParsesSigned w128 10 cs r → get_or cs 0 0 ≢ 43 → get_or cs 0 0 ≢ 45
    → checked (result_ok r) ≡ (if is_numeral cs then int_value (pos (number_of cs)) else Invalid)
plain r cs h plus minus =
    decided r ((all_ascii_digits cs ≡ true) × (0 < length cs) × (number_of cs < 2 ^ 127)) (pos (number_of cs)) (is_numeral cs)
    (parse_signed_plain own w128 cs r h plus minus)
    (λ e t. let p = numeral_parts cs e in (p.0, p.1, fitted (number_of cs) t))
    (λ p. (parts_numeral cs p.0 p.1, fits (number_of cs) p.2))

split_at : (c : ℕ) (b : Bool) → (c == 45) ≡ b → {E : Type 0} (r : Result ℤ E) (cs : List ℕ) → ParsesSigned w128 10 (c ∷ cs) r → c ≢ 43
    → checked (result_ok r) ≡ (if b then (if is_numeral cs then int_value (neg_ℤ (pos (number_of cs))) else Invalid)
    else (if is_numeral (c ∷ cs) then int_value (pos (number_of (c ∷ cs))) else Invalid))
split_at c true e r cs h plus =
    let is : c ≡ 45 = grind (arith, nat_tests) in
    after_minus r cs (subst (λ d. ParsesSigned w128 10 (d ∷ cs) r) is h)
split_at c false e r cs h plus =
    let minus : c ≢ 45 = λ is. grind (arith, nat_tests) in
    plain r (c ∷ cs) h plus minus

-- by the bytes of the text
pub bytes_integer : {E : Type 0} (r : Result ℤ E) (s : List ℕ) → ParsesSigned w128 10 s r → get_or s 0 0 ≢ 43 → checked (result_ok r) ≡ integer_of s
bytes_integer r [] h plus = plain r [] h plus (λ e. absurd (omega arith))
bytes_integer r (c ∷ cs) h plus = split_at c (c == 45) refl r cs h plus

-- by its characters

abbrev writes : List ℕ → Bool
writes [] = false
writes (c ∷ cs) = if c == 45 then is_numeral cs else is_numeral (c ∷ cs)

numeral_ascii : (cs : List ℕ) → is_numeral cs ≡ true → IsAscii cs
numeral_ascii cs e = IsAscii-from_digits cs (own.to cs (numeral_parts cs e).0)

one_ascii : (c : ℕ) (cs : List ℕ) (b : Bool) → (c == 45) ≡ b → (if b then is_numeral cs else is_numeral (c ∷ cs)) ≡ true → IsAscii (c ∷ cs)
one_ascii c cs true is e = IsAscii-cons c cs (grind (arith, nat_tests)) (numeral_ascii cs e)
one_ascii c cs false is e = numeral_ascii (c ∷ cs) e

writes_ascii : (xs : List ℕ) → writes xs ≡ true → IsAscii xs
writes_ascii [] e = absurd (true≢false (sym e))
writes_ascii (c ∷ cs) e = one_ascii c cs (c == 45) refl e

one_other : (c : ℕ) (cs : List ℕ) (b : Bool) → (if b then is_numeral cs else is_numeral (c ∷ cs)) ≡ false
    → (if b then (if is_numeral cs then int_value (neg_ℤ (pos (number_of cs))) else Invalid)
    else (if is_numeral (c ∷ cs) then int_value (pos (number_of (c ∷ cs))) else Invalid)) ≡ Invalid
one_other c cs true e = ap (λ t. if t then int_value (neg_ℤ (pos (number_of cs))) else Invalid) e
one_other c cs false e = ap (λ t. if t then int_value (pos (number_of (c ∷ cs))) else Invalid) e

writes_other : (xs : List ℕ) → writes xs ≡ false → integer_of xs ≡ Invalid
writes_other [] e = refl
writes_other (c ∷ cs) e = one_other c cs (c == 45) e

either : (xs ys : List ℕ) (a b : Bool) → writes xs ≡ a → writes ys ≡ b → (writes xs ≡ true → xs ≡ ys) → (writes ys ≡ true → xs ≡ ys)
    → integer_of xs ≡ integer_of ys
either xs ys true b p q left right = ap integer_of (left p)
either xs ys false true p q left right = ap integer_of (right q)
either xs ys false false p q left right = writes_other xs p ∙ sym (writes_other ys q)

-- the characters write what the bytes do
pub chars_integer : (s : List ℕ) → IsUtf8 s → integer_of (chars s) ≡ integer_of s
chars_integer s u = either (chars s) s (writes (chars s)) (writes s) refl refl
    (λ e. sym (encodes-IsAscii (chars s) (writes_ascii (chars s) e)) ∙ encodes-chars s u)
    (λ e. chars-IsAscii s (writes_ascii s e))

-- a text that begins with a plus sign writes none
pub plus_integer : (s : List ℕ) → get_or s 0 0 ≡ 43 → integer_of s ≡ Invalid
plus_integer [] e = refl
plus_integer (c ∷ cs) e =
    subst (λ d. integer_of (d ∷ cs) ≡ Invalid) (sym e)
    (ap (λ t. if t then int_value (pos (number_of (43 ∷ cs))) else Invalid) (and_false (not (nat_eq (length (43 ∷ cs)) 0))))
