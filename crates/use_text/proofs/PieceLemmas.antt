-- A piece is not empty, and stands within its bytes.
use Rattle.std.proofs.Common.{◌≡◌, ℕ, ◌+◌, ◌<◌, ◌≤◌, ◌==◌, Bool, true, false, not, cond, nat_le, nat_lt, nat_eq, List, [], ◌∷◌, length, take, drop, codes, take_while, is_some, arith, refl, ◌||◌, ◌&&◌, Option, Some, None, IfSome, length-drop}
use borrow.Author.Tests.{ltb-true}
use Rattle.std.specs.Option.{option_map_or}
use Rattle.std.specs.List.{list_all}
use Rattle.std.specs.Cmp.Lexicographic.{pointwise}
use Rattle.std.proofs.lemmas.List.Sums.{take_while-cons}
use Rattle.std.proofs.lemmas.Grind.{common_steps}
use Rattle.use_text.specs.declared.token.TokenKind.{TokenKind}
use Rattle.use_text.specs.declared.token.TokenKind.TheVariants.{Int, Str, AtPre}
use Rattle.use_text.specs.declared.code.Code.{Code}
use Rattle.use_text.specs.declared.code.Family.TheVariants.{L}
use Rattle.use_text.specs.declared.piece.Piece.{Piece}
use Rattle.use_text.specs.declared.piece.Piece.TheVariants.{White, Token, Bad}
use Rattle.use_text.specs.declared.words.TheConstants.{SYMBOLS}
use Rattle.use_text.specs.Codes.{code_of}
use Rattle.use_text.specs.Pieces.{is_white, is_letter, is_digit, is_name_byte, is_in_line, same_text, begins, number_of_digits, word_kind, word_piece, number_piece, string_end, string_piece, comment_end, comment_piece, at_piece, symbol_among, symbol_piece, mark_piece, piece_of}
use Rattle.use_text.specs.TokenSteps.{IsFront}

within_take : (p : ℕ → Bool) (bs : List ℕ) → length (take_while p bs) ≤ length bs
within_take p bs = grind (arith, common_steps)

some_taken : (p : ℕ → Bool) (b : ℕ) (rest : List ℕ) → p b ≡ true → 0 < length (take_while p (b ∷ rest))
some_taken p b rest h = rw (take_while-cons p b rest, h) (omega arith)

by_test : (t : Bool) (x y : Piece) (n : ℕ) → (t ≡ true → IsFront x n) → (t ≡ false → IsFront y n) → IsFront (cond t x y) n
by_test true x y n h k = h refl
by_test false x y n h k = k refl

some_by_test : {A : Type 0} (t : Bool) (x y : Option A) (P : A → Type 0) → (t ≡ true → IfSome x P) → IfSome y P → IfSome (cond t x y) P
some_by_test true x y P h k = h refl
some_by_test false x y P h k = k

some_weaker : {A : Type 0} (o : Option A) (P Q : A → Type 0) → ((a : A) → P a → Q a) → IfSome o P → IfSome o Q
some_weaker None P Q f h = tt
some_weaker (Some a) P Q f h = f a h

by_option : {A : Type 0} (f : A → Piece) (o : Option A) (c : Code) (n : ℕ) → IfSome o (λ a. IsFront (f a) n) → IsFront (option_map_or f o (Bad c)) n
by_option f None c n h = tt
by_option f (Some a) c n h = h

word_front : (word : List ℕ) (n : ℕ) → 0 < length word → length word ≤ n → IsFront (word_piece word) n
word_front word n some within = by_test (nat_le (length word) 64) (Token (word_kind word) (length word)) (Bad (code_of L 5)) n (λ h. (some, within)) (λ h. tt)

number_front : (digits : List ℕ) (n : ℕ) → 0 < length digits → length digits ≤ n → IsFront (number_piece digits) n
number_front digits n some within = by_test (is_some (number_of_digits digits)) (Token Int (length digits)) (Bad (code_of L 3)) n (λ h. (some, within))
    (λ h. tt)

name_begins : (b : ℕ) → is_letter b ≡ true → is_name_byte b ≡ true
name_begins b h = rw h refl

string_between : (n : ℕ) (taken : Bool) (bs : List ℕ) → IfSome (string_end n taken bs) (λ k. (n < k) × (k ≤ n + length bs))
string_between n taken [] = tt
string_between n taken (b ∷ rest) =
    let P : ℕ → Type 0 = λ k. (n < k) × (k ≤ n + length (b ∷ rest)) in
    let quote = (b == 39) && not taken in
    let next = string_end (n + 1) ((b == 92) && not taken) rest in
    let later : IfSome next P = some_weaker next _ P (λ k h. (omega arith, omega arith)) (string_between (n + 1) ((b == 92) && not taken) rest) in
    some_by_test (b == 10) None (cond quote (Some (n + 1)) next) P (λ h. tt) (some_by_test quote (Some (n + 1)) next P (λ h. (omega arith, omega arith)) later)

comment_between : (n : ℕ) (star : Bool) (bs : List ℕ) → IfSome (comment_end n star bs) (λ k. (n < k) × (k ≤ n + length bs))
comment_between n star [] = tt
comment_between n star (b ∷ rest) =
    let P : ℕ → Type 0 = λ k. (n < k) × (k ≤ n + length (b ∷ rest)) in
    let slash = (b == 47) && star in
    let next = comment_end (n + 1) (b == 42) rest in
    let later : IfSome next P = some_weaker next _ P (λ k h. (omega arith, omega arith)) (comment_between (n + 1) (b == 42) rest) in
    some_by_test slash (Some (n + 1)) next P (λ h. (omega arith, omega arith)) later

string_front : (b : ℕ) (rest : List ℕ) → IsFront (string_piece rest) (length (b ∷ rest))
string_front b rest = by_option (λ k. Token Str k) (string_end 1 false rest) (code_of L 4) (length (b
    ∷ rest)) (some_weaker (string_end 1 false rest) _ _ (λ k h. (omega arith, omega arith)) (string_between 1 false rest))

at_front : (b : ℕ) (rest : List ℕ) → IsFront (at_piece (take_while is_name_byte rest)) (length (b ∷ rest))
at_front b rest =
    let word = take_while is_name_byte rest in
    by_test (same_text word (codes "pre")) (Token AtPre (length word + 1)) (Bad (code_of L 2)) (length (b
    ∷ rest)) (λ h. (omega arith, omega (arith, within_take is_name_byte rest))) (λ h. tt)

pub and_left : (x y : Bool) → x && y ≡ true → x ≡ true
and_left true y h = refl
and_left false y h = h

pub and_right : (x y : Bool) → x && y ≡ true → y ≡ true
and_right true y h = h
and_right false y h = cc

same_front : (front bs : List ℕ) → pointwise nat_eq front (take (length front) bs) ≡ true → length front ≤ length bs
same_front [] bs h = omega arith
same_front (f ∷ front) [] h = cc
same_front (f ∷ front) (b ∷ bs) h = omega (arith, same_front front bs (and_right (nat_eq f b) _ h))

pub begins_within : (bs front : List ℕ) → begins bs front ≡ true → length front ≤ length bs
begins_within bs front h = same_front front bs h

comment_front : (bs : List ℕ) → 2 ≤ length bs → IsFront (comment_piece (drop 2 bs)) (length bs)
comment_front bs two =
    by_option (λ k. White k) (comment_end 2 false (drop 2 bs)) (code_of L 4) (length bs) (some_weaker (comment_end 2 false (drop 2 bs)) _ _ (λ k h.
    (omega arith, omega (arith, length-drop 2 bs))) (comment_between 2 false (drop 2 bs)))

rows_front : {A : Type 0} (bs : List ℕ) (rows : List (A × TokenKind)) (text : A → List ℕ) → list_all (λ row. nat_lt 0 (length (text row.0))) rows ≡ true
    → IsFront (symbol_among rows text bs) (length bs)
rows_front bs [] text h = tt
rows_front bs (row ∷ rows) text h =
    by_test (begins bs (text row.0)) (Token row.1 (length (text row.0))) (symbol_among rows text bs) (length bs) (λ k. (
      ltb-true _ _
          (and_left _ _ h),
      begins_within bs (text row.0) k,
    )) (λ k. rows_front bs rows text (and_right _ _ h))

symbol_front : (bs : List ℕ) → IsFront (symbol_piece bs) (length bs)
unfolding symbol_piece
symbol_front bs = rows_front bs SYMBOLS (λ t. t.now) refl

pub or_right : (x y : Bool) → x || y ≡ false → y ≡ false
or_right true y h = cc
or_right false y h = h

in_line : (b : ℕ) → is_white b ≡ false → is_in_line b ≡ true
in_line b h = rw (or_right _ (b == 10) h) refl

mark_front : (b : ℕ) (rest : List ℕ) → is_white b ≡ false → IsFront (mark_piece (b ∷ rest)) (length (b ∷ rest))
mark_front b rest dark =
    let bs = b ∷ rest in
    by_test (begins bs (codes "--") || begins bs (codes "//")) (White (length (take_while is_in_line bs))) _ (length bs) (λ h. (
      some_taken is_in_line b rest
          (in_line b dark),
      within_take is_in_line bs,
    ))
    (λ h. by_test (begins bs (codes "/*")) (comment_piece (drop 2 bs)) (symbol_piece bs) (length bs) (λ k. comment_front bs (begins_within bs (codes "/*") k))
    (λ k. symbol_front bs))

pub piece_front : (bs : List ℕ) → IsFront (piece_of bs) (length bs)
piece_front [] = tt
piece_front (b ∷ rest) =
    let n = length (b ∷ rest) in
    by_test (is_white b) (White (length (take_while is_white (b ∷ rest)))) _ n (λ h. (some_taken is_white b rest h, within_take is_white (b ∷ rest)))
    (λ dark. by_test (is_letter b) (word_piece (take_while is_name_byte (b ∷ rest))) _ n (λ h. word_front (take_while is_name_byte (b
    ∷ rest)) n (some_taken is_name_byte b rest (name_begins b h)) (within_take is_name_byte (b ∷ rest)))
    (λ k. by_test (is_digit b) (number_piece (take_while is_digit (b ∷ rest))) _ n (λ h. number_front (take_while is_digit (b
    ∷ rest)) n (some_taken is_digit b rest h) (within_take is_digit (b ∷ rest)))
    (λ k. by_test (b == 39) (string_piece rest) _ n (λ h. string_front b rest)
    (λ k. by_test (b == 64) (at_piece (take_while is_name_byte rest)) (mark_piece (b ∷ rest)) n (λ h. at_front b rest) (λ k. mark_front b rest dark)))))
