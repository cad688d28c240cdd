-- White space at the end of a text, and names of files.
use Rattle.std.proofs.Common.{◌≡◌, ℕ, ◌+◌, ◌-◌, ◌<◌, ◌≤◌, ◌==◌, nat_eq, nat_lt, not, ◌&&◌, Bool, true, false, List, [], ◌∷◌, ◌++◌, length, take, get_or, Ok, Err, refl, sym, ap, ◌∙◌, arith, if◌then◌else◌}
use Rattle.std.proofs.lemmas.Bool.Decides.{nat_tests}
use Rattle.std.proofs.lemmas.List.{take_more}
use Rattle.std.specs.Str.Lossy.{utf8_valid_len}
use Rattle.use_text.specs.declared.code.Family.TheVariants.{L, S}
use Rattle.use_text.specs.Codes.{code_of}
use Rattle.std.specs.List.{list_all}
use Rattle.use_text.specs.Pieces.{is_white}
use Rattle.use_session.specs.FileWords.{judged, max_name, trimmed}

and_true : (t : Bool) → t && true ≡ t
and_true true = refl
and_true false = refl

and_assoc : (s t u : Bool) → s && (t && u) ≡ (s && t) && u
and_assoc true t u = refl
and_assoc false t u = refl

and_false : (t : Bool) → t && false ≡ false
and_false true = refl
and_false false = refl

all_snoc : (xs : List ℕ) (b : ℕ) → list_all is_white (xs ++ b ∷ []) ≡ list_all is_white xs && is_white b
all_snoc [] b = and_true (is_white b)
all_snoc (x ∷ xs) b = ap (λ t. is_white x && t) (all_snoc xs b) ∙ and_assoc (is_white x) (list_all is_white xs) (is_white b)

pub white_end : (xs : List ℕ) (b : ℕ) → is_white b ≡ true → trimmed (xs ++ b ∷ []) ≡ trimmed xs
white_end [] b h = ap (λ t. if t && true then [] else b ∷ []) h
white_end (x ∷ xs) b h =
    let same : list_all is_white (xs ++ b ∷ []) ≡ list_all is_white xs = all_snoc xs b ∙ ap (λ t. list_all is_white xs && t) h ∙ and_true (list_all is_white xs) in
    ap (λ t. if is_white x && t then [] else x ∷ trimmed (xs ++ b ∷ [])) same
    ∙ ap (λ l. if is_white x && list_all is_white xs then [] else x ∷ l) (white_end xs b h)

pub dark_end : (xs : List ℕ) (b : ℕ) → is_white b ≡ false → trimmed (xs ++ b ∷ []) ≡ xs ++ b ∷ []
dark_end [] b h = ap (λ t. if t && true then [] else b ∷ []) h
dark_end (x ∷ xs) b h =
    let none : list_all is_white (xs ++ b ∷ []) ≡ false = all_snoc xs b ∙ ap (λ t. list_all is_white xs && t) h ∙ and_false (list_all is_white xs) in
    ap (λ t. if is_white x && t then [] else x ∷ trimmed (xs ++ b ∷ [])) none
    ∙ ap (λ t. if t then [] else x ∷ trimmed (xs ++ b ∷ [])) (and_false (is_white x))
    ∙ ap (λ l. x ∷ l) (dark_end xs b h)

-- one byte less
pub white_before : (xs : List ℕ) (n : ℕ) → 0 < n → n ≤ length xs → is_white (get_or xs (n - 1) 0) ≡ true → trimmed (take (n - 1) xs) ≡ trimmed (take n xs)
white_before xs n some within h =
    let e : n - 1 + 1 ≡ n = omega arith in
    let less : n - 1 < length xs = omega arith in
    let is : take n xs ≡ take (n - 1) xs ++ get_or xs (n - 1) 0 ∷ [] = ap (λ k. take k xs) (sym e) ∙ take_more xs (n - 1) 0 less in
    sym (ap trimmed is ∙ white_end (take (n - 1) xs) (get_or xs (n - 1) 0) h)

pub dark_before : (xs : List ℕ) (n : ℕ) → 0 < n → n ≤ length xs → is_white (get_or xs (n - 1) 0) ≡ false → take n xs ≡ trimmed (take n xs)
dark_before xs n some within h =
    let e : n - 1 + 1 ≡ n = omega arith in
    let less : n - 1 < length xs = omega arith in
    let is : take n xs ≡ take (n - 1) xs ++ get_or xs (n - 1) 0 ∷ [] = ap (λ k. take k xs) (sym e) ∙ take_more xs (n - 1) 0 less in
    sym (ap trimmed is ∙ dark_end (take (n - 1) xs) (get_or xs (n - 1) 0) h ∙ sym is)

pub none_before : (xs : List ℕ) (n : ℕ) → n ≡ 0 → take n xs ≡ trimmed (take n xs)
none_before xs n none = ap (λ k. take k xs) none ∙ ap (λ k. trimmed (take k xs)) (sym none)

-- names by the rules
module _ (name : List ℕ) (whole : utf8_valid_len name ≡ length name) where
  is_whole : not (utf8_valid_len name == length name) ≡ false
  is_whole = grind (arith, nat_tests)

  pub judged_empty : length name ≡ 0 → judged name ≡ Err (code_of S 1)
  judged_empty none =
      let empty : nat_eq (length name) 0 ≡ true = grind (arith, nat_tests) in
      rw (is_whole, empty) refl

  pub judged_long : (length name ≡ 0 → ⊥) → max_name < length name → judged name ≡ Err (code_of L 5)
  judged_long some long =
      let empty : nat_eq (length name) 0 ≡ false = grind (arith, nat_tests) in
      let past : nat_lt max_name (length name) ≡ true = grind (arith, nat_tests) in
      rw (is_whole, empty, past) refl

  pub judged_right : (length name ≡ 0 → ⊥) → length name ≤ max_name → judged name ≡ Ok name
  judged_right some short =
      let empty : nat_eq (length name) 0 ≡ false = grind (arith, nat_tests) in
      let within : nat_lt max_name (length name) ≡ false = grind (arith, nat_tests) in
      rw (is_whole, empty, within) refl
