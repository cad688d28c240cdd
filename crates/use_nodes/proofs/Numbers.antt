-- A token that is an Integer's writes a number, and each token stands in a column from 1 on.
use Rattle.std.proofs.Common.{◌≡◌, ◌≤◌, ℕ, zero, suc, ◌+◌, ◌==◌, ◌-◌, ◌||◌, not, Bool, true, false, cond, nat_le, is_some, List, [], ◌∷◌, length, drop, take, codes, take_while, Option, Some, None, Ok, Err, refl, sym, ap, ◌∙◌, arith, subst, slice_range}
use Rattle.std.specs.List.{AllByRecursion}
use Rattle.std.specs.Option.{option_map_or}
use Rattle.std.specs.Str.Lossy.{utf8_valid_len}
use Rattle.std.proofs.lemmas.List.{drop-drop}
use Rattle.std.proofs.lemmas.List.Folds.{length-prefix_len}
use Rattle.use_text.specs.declared.code.Code.{Code}
use Rattle.use_text.specs.declared.code.Family.TheVariants.{L}
use Rattle.use_text.specs.declared.place.Place.{Place}
use Rattle.use_text.specs.declared.refusal.Refusal.{Refusal}
use Rattle.use_text.specs.declared.token.Token.{Token as TokenAt}
use Rattle.use_text.specs.declared.token.TokenKind.{TokenKind}
use Rattle.use_text.specs.declared.token.TokenKind.TheVariants.{End, Int, Str, AtPre}
use Rattle.use_text.specs.declared.piece.Piece.{Piece}
use Rattle.use_text.specs.declared.piece.Piece.TheVariants.{White, Token, Bad}
use Rattle.use_text.specs.declared.words.TheConstants.{WORDS, SYMBOLS}
use Rattle.use_text.specs.Codes.{code_of}
use Rattle.use_text.specs.Kinds.{number_of}
use Rattle.use_text.specs.Pieces.{is_white, white_length, is_letter, is_digit, is_name_byte, is_in_line, same_text, begins, kind_among, word_kind, word_piece, number_of_digits, number_piece, string_end, string_piece, comment_end, comment_piece, at_piece, symbol_among, symbol_piece, mark_piece, piece_of}
use Rattle.use_text.specs.Places.{place_at, behind}
use Rattle.use_text.specs.Refusals.{refusal_at}
use Rattle.use_text.specs.Tokens.{Tokens, token_at, before, reading, tokens_from, tokens_of_utf8, tokens, utf8_end}
use Rattle.use_syntax.proofs.Ranked.{both, both_left, both_right}
use Rattle.use_nodes.specs.Written.{IntegersAreNumbers, WritesNumber, number_written}

-- a kind that is not an Integer's
abbrev is_other : ℕ → Bool
is_other k = not (k == 2)

-- ---- what a piece gives

-- the number that the bytes of a piece write, where it is an Integer
abbrev IsNumber : List ℕ → Piece → Type 0
IsNumber bytes (White n) = Unit {0}
IsNumber bytes (Token kind n) = number_of kind ≡ 2 → is_some (number_of_digits (take n bytes)) ≡ true
IsNumber bytes (Bad code) = Unit {0}

module _ (bytes : List ℕ) where
  by_test : (t : Bool) (x y : Piece) → (t ≡ true → IsNumber bytes x) → IsNumber bytes y → IsNumber bytes (cond t x y)
  by_test true x y h k = h refl
  by_test false x y h k = k

  by_option : {A : Type 0} (f : A → Piece) (o : Option A) (c : Code) → ((a : A) → IsNumber bytes (f a)) → IsNumber bytes (option_map_or f o (Bad c))
  by_option f None c h = tt
  by_option f (Some a) c h = h a

  other_kind : (kind : TokenKind) (n : ℕ) → is_other (number_of kind) ≡ true → IsNumber bytes (Token kind n)
  other_kind kind n h e = wrong (number_of kind) h e
    where
      wrong : (m : ℕ) → not (m == 2) ≡ true → m ≡ 2 → is_some (number_of_digits (take n bytes)) ≡ true
      wrong m h e = let two : not (2 == 2) ≡ true = subst (λ (x : ℕ). not (x == 2) ≡ true) e h in absurd (cc)

-- a table without Integers
abbrev are_others : {A : Type 0} → List (A × TokenKind) → Bool
are_others [] = true
are_others (row ∷ rows) = both (is_other (number_of row.1)) (are_others rows)

kind_other : {A : Type 0} (rows : List (A × TokenKind)) (text : A → List ℕ) (word : List ℕ) → are_others rows ≡ true
    → is_other (number_of (kind_among rows text word)) ≡ true
kind_other [] text word h = refl
kind_other (row ∷ rows) text word h =
    by_row (same_text word (text row.0)) row.1 (kind_among rows text word) (both_left _ _ h) (kind_other rows text word (both_right _ _ h))
  where
    by_row : (t : Bool) (a b : TokenKind) → is_other (number_of a) ≡ true → is_other (number_of b) ≡ true → is_other (number_of (cond t a b)) ≡ true
    by_row true a b h k = h
    by_row false a b h k = k

symbol_other : {A : Type 0} (rows : List (A × TokenKind)) (text : A → List ℕ) (bytes : List ℕ) → are_others rows ≡ true
    → IsNumber bytes (symbol_among rows text bytes)
symbol_other [] text bytes h = tt
symbol_other (row ∷ rows) text bytes h =
    by_test bytes (begins bytes (text row.0)) (Token row.1 (length (text row.0))) (symbol_among rows text bytes)
    (λ e. other_kind bytes row.1 (length (text row.0)) (both_left _ _ h)) (symbol_other rows text bytes (both_right _ _ h))

word_other : (word : List ℕ) → is_other (number_of (word_kind word)) ≡ true
unfolding word_kind
word_other word = kind_other WORDS (λ t. t.now) word refl

symbols_other : (bytes : List ℕ) → IsNumber bytes (symbol_piece bytes)
unfolding symbol_piece
symbols_other bytes = symbol_other SYMBOLS (λ t. t.now) bytes refl

mark_other : (bytes : List ℕ) → IsNumber bytes (mark_piece bytes)
mark_other bytes =
    by_test bytes (begins bytes (codes "--") || begins bytes (codes "//")) (White (length (take_while is_in_line bytes))) _ (λ e. tt)
    (by_test bytes (begins bytes (codes "/*")) (comment_piece (drop 2 bytes)) (symbol_piece bytes)
    (λ e. by_option bytes (λ n. White n) (comment_end 2 false (drop 2 bytes)) (code_of L 4) (λ n. tt)) (symbols_other bytes))

-- the first bytes that pass a test
taken : (p : ℕ → Bool) (bytes : List ℕ) → take (length (take_while p bytes)) bytes ≡ take_while p bytes
taken p bytes = ap (λ (n : ℕ). take n bytes) (length-prefix_len p bytes)

piece_number : (bytes : List ℕ) → IsNumber bytes (piece_of bytes)
piece_number [] = tt
piece_number (b ∷ rest) =
    let all : List ℕ = b ∷ rest in
    let word = take_while is_name_byte all in
    let digits = take_while is_digit all in
    let tag = take_while is_name_byte rest in
    by_test all (is_white b) (White (white_length all)) _ (λ e. tt)
    (by_test all (is_letter b) (word_piece word) _
    (λ e. by_test all (nat_le (length word) 64) (Token (word_kind word) (length word)) (Bad (code_of L 5))
    (λ e. other_kind all (word_kind word) (length word) (word_other word)) tt)
    (by_test all (is_digit b) (number_piece digits) _
    (λ e. by_test all (is_some (number_of_digits digits)) (Token Int (length digits)) (Bad (code_of L 3))
    (λ some int. subst (λ (ds : List ℕ). is_some (number_of_digits ds) ≡ true) (sym (taken is_digit all)) some) tt)
    (by_test all (b == 39) (string_piece rest) _
    (λ e. by_option all (λ n. Token Str n) (string_end 1 false rest) (code_of L 4) (λ n. other_kind all Str n refl))
    (by_test all (b == 64) (at_piece tag) (mark_piece all)
    (λ e. by_test all (same_text tag (codes "pre")) (Token AtPre (length tag + 1)) (Bad (code_of L 2)) (λ e. other_kind all AtPre (length tag + 1) refl) tt)
    (mark_other all)))))

-- ---- the tokens of a text

-- a token is such
pub record IsSound (text : List ℕ) (t : TokenAt) : Type 0 where
  pub number : WritesNumber text t
  pub column : 1 ≤ t.place.col

abbrev AreSound : List ℕ → Tokens → Type 0
AreSound text (Ok ts) = AllByRecursion (IsSound text) ts
AreSound text (Err r) = Unit {0}

before_sound : (text : List ℕ) (t : TokenAt) (m : Tokens) → IsSound text t → AreSound text m → AreSound text (before t m)
before_sound text t (Ok ts) h k = (h, k)
before_sound text t (Err r) h k = tt

-- the end of the tokens
pub record IsEnd (end : TokenAt) : Type 0 where
  pub kind : end.kind ≡ 0
  pub column : 1 ≤ end.place.col

end_sound : (text : List ℕ) (end : TokenAt) → IsEnd end → IsSound text end
end_sound text end is = record { number = λ e. wrong end.kind is.kind e; column = is.column }
  where
    wrong : (k : ℕ) → k ≡ 0 → k ≡ 2 → is_some (number_written text end) ≡ true
    wrong k z e = absurd (omega (arith, z, e))

behind_column : (p : Place) (b : ℕ) → 1 ≤ (behind p b).col
behind_column p b = by_line (b == 10)
  where
    by_line : (t : Bool) → 1 ≤ (cond t (place_at (p.line + 1) 1) (place_at p.line (p.col + 1))).col
    by_line true = omega arith
    by_line false = omega arith

-- the bytes from a place on
bytes_at : (text : List ℕ) (at n : ℕ) → slice_range text at (at + n) ≡ take n (drop at text)
bytes_at text at n = let e : at + n - at ≡ n = omega arith in ap (λ (m : ℕ). take m (drop at text)) e

drop_next : (text : List ℕ) (at b : ℕ) (rest : List ℕ) → b ∷ rest ≡ drop at text → rest ≡ drop (at + 1) text
drop_next text at b rest e = ap (λ (l : List ℕ). drop 1 l) e ∙ drop-drop 1 at text

module _ (text : List ℕ) where
  reading_sound : (p : Piece) (at : ℕ) (place : Place) (end : TokenAt) (more : ℕ → TokenAt → Tokens) → IsNumber (drop at text) p → 1 ≤ place.col → IsEnd end
      → ((s : ℕ) (e : TokenAt) → IsEnd e → AreSound text (more s e)) → AreSound text (reading p at place end more)
  reading_sound (White k) at place end more number col is h = h (k - 1) end is
  reading_sound (Token kind k) at place end more number col is h =
      let next : TokenAt = token_at End (at + k) (at + k) (place_at place.line (place.col + k)) in
      before_sound text (token_at kind at (at + k) place) (more (k - 1) next)
      (record {
        number = λ e. subst (λ (ds : List ℕ). is_some (number_of_digits ds) ≡ true) (sym (bytes_at text at k)) (number e);
        column = col;
      })
      (h (k - 1) next (record { kind = refl; column = omega (arith, col) }))
  reading_sound (Bad code) at place end more number col is h = tt

  from_sound : (skip at : ℕ) (place : Place) (end : TokenAt) (xs : List ℕ) → xs ≡ drop at text → 1 ≤ place.col → IsEnd end
      → AreSound text (tokens_from skip at place end xs)
  from_sound skip at place end [] here col is = (end_sound text end is, tt)
  from_sound zero at place end (b ∷ rest) here col is =
      reading_sound (piece_of (b ∷ rest)) at place end (λ skip end. tokens_from skip (at + 1) (behind place b) end rest)
      (subst (λ (bytes : List ℕ). IsNumber bytes (piece_of (b ∷ rest))) here (piece_number (b ∷ rest))) col is
      (λ s e h. from_sound s (at + 1) (behind place b) e rest (drop_next text at b rest here) (behind_column place b) h)
  from_sound (suc skip) at place end (b ∷ rest) here col is =
      from_sound skip (at + 1) (behind place b) end rest (drop_next text at b rest here) (behind_column place b) is

  choice_sound : (t : Bool) (given : Tokens) (r : Refusal) → AreSound text given → AreSound text (cond t given (Err r))
  choice_sound true given r h = h
  choice_sound false given r h = tt

  tokens_sound : (first_line : ℕ) → AreSound text (tokens first_line text)
  tokens_sound first_line =
      choice_sound (utf8_valid_len text == length text) (tokens_of_utf8 first_line text) (refusal_at (code_of L 1) (utf8_end first_line text))
      (from_sound 0 0 (place_at first_line 1) (token_at End 0 0 (place_at first_line 1)) text refl (omega arith)
      (record { kind = refl; column = omega arith }))

pub sound_tokens : (first_line : ℕ) (text : List ℕ) (ts : List TokenAt) → tokens first_line text ≡ Ok ts → AllByRecursion (IsSound text) ts
sound_tokens first_line text ts e = subst (λ (m : Tokens). AreSound text m) e (tokens_sound text first_line)

weaker : {X : Type 0} (P Q : X → Type 0) → ((x : X) → P x → Q x) → (xs : List X) → AllByRecursion P xs → AllByRecursion Q xs
weaker P Q f [] h = tt
weaker P Q f (x ∷ xs) h = (f x h.0, weaker P Q f xs h.1)

pub numbers_are : IntegersAreNumbers
numbers_are first_line text ts e = weaker (IsSound text) (WritesNumber text) (λ t h. h.number) ts (sound_tokens first_line text ts e)
