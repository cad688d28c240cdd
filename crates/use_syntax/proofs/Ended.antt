-- The last token of a text is `End`, and no other one is.
use Rattle.std.proofs.Common.{◌≡◌, ℕ, zero, suc, ◌+◌, ◌==◌, ◌-◌, ◌||◌, Bool, true, false, cond, nat_le, is_some, List, [], ◌∷◌, length, drop, codes, take_while, Option, Some, None, slice_get, Ok, Err, refl, sym, ap, arith, subst}
use Rattle.std.specs.Option.{option_map_or}
use Rattle.std.specs.Str.Lossy.{utf8_valid_len}
use Rattle.use_text.specs.declared.code.Code.{Code}
use Rattle.use_text.specs.declared.code.Family.TheVariants.{L}
use Rattle.use_text.specs.declared.place.Place.{Place}
use Rattle.use_text.specs.declared.refusal.Refusal.{Refusal}
use Rattle.use_text.specs.declared.token.Token.{Token as TokenAt}
use Rattle.use_text.specs.declared.token.TokenKind.{TokenKind}
use Rattle.use_text.specs.declared.token.TokenKind.TheVariants.{End, Int, Str, AtPre}
use Rattle.use_text.specs.declared.piece.Piece.{Piece}
use Rattle.use_text.specs.declared.piece.Piece.TheVariants.{White, Token, Bad}
use Rattle.use_text.specs.declared.words.TheConstants.{WORDS, SYMBOLS}
use Rattle.use_text.specs.Codes.{code_of}
use Rattle.use_text.specs.Kinds.{number_of}
use Rattle.use_text.specs.Pieces.{is_white, white_length, is_letter, is_digit, is_name_byte, is_in_line, same_text, begins, kind_among, word_kind, word_piece, number_of_digits, number_piece, string_end, string_piece, comment_end, comment_piece, at_piece, symbol_among, symbol_piece, mark_piece, piece_of}
use Rattle.use_text.specs.Places.{place_at, behind}
use Rattle.use_text.specs.Tokens.{Tokens, token_at, before, reading, tokens_from, tokens_of_utf8, tokens}
use Rattle.grammar_core.specs.Derives.{kinds}
use Rattle.use_syntax.proofs.Ranked.{both, both_left, both_right}

-- a kind that is not `End`
abbrev pub is_other : ℕ → Bool
is_other zero = false
is_other (suc k) = true

abbrev pub is_nil : List ℕ → Bool
is_nil [] = true
is_nil (k ∷ ks) = false

-- kinds other than `End`, and then one `End`
abbrev pub is_ended : List ℕ → Bool
is_ended [] = false
is_ended (zero ∷ ks) = is_nil ks
is_ended (suc k ∷ ks) = is_ended ks

-- the place of the only `End`
pub record EndsAt (ks : List ℕ) (last : ℕ) : Type 0 where
  pub long : length ks ≡ last + 1
  pub there : slice_get ks last ≡ Some 0
  pub only : (at : ℕ) → slice_get ks at ≡ Some 0 → at ≡ last

end_here : (ks : List ℕ) → is_nil ks ≡ true → EndsAt (0 ∷ ks) 0
end_here [] e = record { long = refl; there = refl; only = only }
  where
    only : (at : ℕ) → slice_get {X = ℕ} (0 ∷ []) at ≡ Some 0 → at ≡ 0
    only zero h = refl
    only (suc at) h = (cc)
end_here (k ∷ ks) e = (cc)

end_later : (k last : ℕ) (ks : List ℕ) → EndsAt ks last → EndsAt (suc k ∷ ks) (suc last)
end_later k last ks h = let long = h.long in record { long = omega (arith, long); there = h.there; only = only }
  where
    only : (at : ℕ) → slice_get (suc k ∷ ks) at ≡ Some 0 → at ≡ suc last
    only zero e = (cc)
    only (suc at) e = ap suc (h.only at e)

pub end_of : (ks : List ℕ) → is_ended ks ≡ true → (last : ℕ) × EndsAt ks last
end_of [] e = (cc)
end_of (zero ∷ ks) e = (0, end_here ks e)
end_of (suc k ∷ ks) e = let rest = end_of ks e in (suc rest.0, end_later k rest.0 ks rest.1)

-- a token that a piece gives is not `End`
abbrev IsOther : Piece → Type 0
IsOther (White n) = Unit {0}
IsOther (Token kind n) = is_other (number_of kind) ≡ true
IsOther (Bad code) = Unit {0}

by_test : (t : Bool) (x y : Piece) → IsOther x → IsOther y → IsOther (cond t x y)
by_test true x y h k = h
by_test false x y h k = k

by_option : {A : Type 0} (f : A → Piece) (o : Option A) (c : Code) → ((a : A) → IsOther (f a)) → IsOther (option_map_or f o (Bad c))
by_option f None c h = tt
by_option f (Some a) c h = h a

-- a table without `End`
abbrev are_others : {A : Type 0} → List (A × TokenKind) → Bool
are_others [] = true
are_others (row ∷ rows) = both (is_other (number_of row.1)) (are_others rows)

kind_other : {A : Type 0} (rows : List (A × TokenKind)) (text : A → List ℕ) (word : List ℕ) → are_others rows ≡ true
    → is_other (number_of (kind_among rows text word)) ≡ true
kind_other [] text word h = refl
kind_other (row ∷ rows) text word h = by_row (same_text word (text row.0)) row.1 (kind_among rows text word) (both_left _ _ h) (kind_other rows text word
    (both_right _ _ h))
  where
    by_row : (t : Bool) (a b : TokenKind) → is_other (number_of a) ≡ true → is_other (number_of b) ≡ true → is_other (number_of (cond t a b)) ≡ true
    by_row true a b h k = h
    by_row false a b h k = k

symbol_other : {A : Type 0} (rows : List (A × TokenKind)) (text : A → List ℕ) (bytes : List ℕ) → are_others rows ≡ true → IsOther (symbol_among rows text bytes)
symbol_other [] text bytes h = tt
symbol_other (row ∷ rows) text bytes h = by_test (begins bytes (text row.0)) (Token row.1 (length (text row.0))) (symbol_among rows text bytes)
    (both_left _ _ h) (symbol_other rows text bytes (both_right _ _ h))

word_other : (word : List ℕ) → is_other (number_of (word_kind word)) ≡ true
unfolding word_kind
word_other word = kind_other WORDS (λ t. t.now) word refl

symbols_other : (bytes : List ℕ) → IsOther (symbol_piece bytes)
unfolding symbol_piece
symbols_other bytes = symbol_other SYMBOLS (λ t. t.now) bytes refl

mark_other : (bytes : List ℕ) → IsOther (mark_piece bytes)
mark_other bytes =
    by_test (begins bytes (codes "--") || begins bytes (codes "//")) (White (length (take_while is_in_line bytes))) _ tt
    (by_test (begins bytes (codes "/*")) (comment_piece (drop 2 bytes)) (symbol_piece bytes) (by_option (λ n. White n) (comment_end 2 false (drop 2 bytes))
    (code_of L 4) (λ n. tt)) (symbols_other bytes))

piece_other : (bytes : List ℕ) → IsOther (piece_of bytes)
piece_other [] = tt
piece_other (b ∷ rest) =
    let word = take_while is_name_byte (b ∷ rest) in
    let digits = take_while is_digit (b ∷ rest) in
    let tag = take_while is_name_byte rest in
    by_test (is_white b) (White (white_length (b ∷ rest))) _ tt
    (by_test (is_letter b) (word_piece word) _ (by_test (nat_le (length word) 64) (Token (word_kind word) (length word)) (Bad (code_of L 5))
    (word_other word) tt)
    (by_test (is_digit b) (number_piece digits) _ (by_test (is_some (number_of_digits digits)) (Token Int (length digits)) (Bad (code_of L 3)) refl tt)
    (by_test (b == 39) (string_piece rest) _ (by_option (λ n. Token Str n) (string_end 1 false rest) (code_of L 4) (λ n. refl))
    (by_test (b == 64) (at_piece tag) (mark_piece (b ∷ rest)) (by_test (same_text tag (codes "pre")) (Token AtPre (length tag + 1)) (Bad (code_of L 2)) refl tt)
    (mark_other (b ∷ rest))))))

-- tokens whose kinds are such
abbrev IsEnded : Tokens → Type 0
IsEnded (Ok ts) = is_ended (kinds ts) ≡ true
IsEnded (Err r) = Unit {0}

kind_before : (k : ℕ) (ks : List ℕ) → is_other k ≡ true → is_ended ks ≡ true → is_ended (k ∷ ks) ≡ true
kind_before zero ks h e = (cc)
kind_before (suc k) ks h e = e

before_ended : (t : TokenAt) (m : Tokens) → is_other t.kind ≡ true → IsEnded m → IsEnded (before t m)
before_ended t (Ok ts) h e = kind_before t.kind (kinds ts) h e
before_ended t (Err r) h e = tt

end_ended : (end : TokenAt) → end.kind ≡ 0 → is_ended (kinds (end ∷ [])) ≡ true
end_ended end e = subst (λ (k : ℕ). is_ended (k ∷ []) ≡ true) (sym e) refl

reading_ended : (p : Piece) (at : ℕ) (place : Place) (end : TokenAt) (more : ℕ → TokenAt → Tokens) → IsOther p → end.kind ≡ 0 → ((s : ℕ) (e : TokenAt)
    → e.kind ≡ 0 → IsEnded (more s e)) → IsEnded (reading p at place end more)
reading_ended (White k) at place end more other is h = h (k - 1) end is
reading_ended (Token kind k) at place end more other is h = before_ended (token_at kind at (at + k) place) (more (k - 1) (token_at End (at + k) (at + k)
    (place_at place.line (place.col + k)))) other (h (k - 1) (token_at End (at + k) (at + k) (place_at place.line (place.col + k))) refl)
reading_ended (Bad code) at place end more other is h = tt

from_ended : (skip at : ℕ) (place : Place) (end : TokenAt) (xs : List ℕ) → end.kind ≡ 0 → IsEnded (tokens_from skip at place end xs)
from_ended skip at place end [] is = end_ended end is
from_ended zero at place end (b ∷ rest) is = reading_ended (piece_of (b ∷ rest)) at place end (λ skip end. tokens_from skip (at + 1) (behind place b) end rest)
    (piece_other (b ∷ rest)) is (λ s e h. from_ended s (at + 1) (behind place b) e rest h)
from_ended (suc skip) at place end (b ∷ rest) is = from_ended skip (at + 1) (behind place b) end rest is

choice_ended : (t : Bool) (given : Tokens) (r : Refusal) → IsEnded given → IsEnded (cond t given (Err r))
choice_ended true given r h = h
choice_ended false given r h = tt

tokens_ended : (first_line : ℕ) (text : List ℕ) → IsEnded (tokens first_line text)
tokens_ended first_line text = choice_ended (utf8_valid_len text == length text) (tokens_of_utf8 first_line text) _ (from_ended 0 0 (place_at first_line 1)
    (token_at End 0 0 (place_at first_line 1)) text refl)

pub end_of_tokens : (first_line : ℕ) (text : List ℕ) (ts : List TokenAt) → tokens first_line text ≡ Ok ts → (last : ℕ) × EndsAt (kinds ts) last
end_of_tokens first_line text ts e = end_of (kinds ts) (subst (λ (m : Tokens). IsEnded m) e (tokens_ended first_line text))
