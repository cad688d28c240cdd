-- A text has at most one token more than bytes.
use Rattle.std.proofs.Common.{◌≡◌, ◌≤◌, ℕ, zero, suc, ◌+◌, ◌==◌, ◌-◌, Bool, true, false, if◌then◌else◌, List, [], ◌∷◌, length, Ok, Err, arith, subst}
use Rattle.std.specs.Str.Lossy.{utf8_valid_len}
use Rattle.use_text.specs.declared.place.Place.{Place}
use Rattle.use_text.specs.declared.refusal.Refusal.{Refusal}
use Rattle.use_text.specs.declared.token.Token.{Token as TokenAt}
use Rattle.use_text.specs.declared.piece.Piece.{Piece}
use Rattle.use_text.specs.declared.piece.Piece.TheVariants.{White, Token, Bad}
use Rattle.use_text.specs.declared.token.TokenKind.TheVariants.{End}
use Rattle.use_text.specs.Pieces.{piece_of}
use Rattle.use_text.specs.Places.{place_at, behind}
use Rattle.use_text.specs.Tokens.{Tokens, token_at, before, reading, tokens_from, tokens_of_utf8, tokens}

-- at most one token more than n
abbrev pub IsShort : ℕ → Tokens → Type 0
IsShort n (Ok ts) = length ts ≤ n + 1
IsShort n (Err r) = Unit {0}

later : (n : ℕ) (m : Tokens) → IsShort n m → IsShort (suc n) m
later n (Ok ts) h = omega (arith, h)
later n (Err r) h = tt

before_short : (n : ℕ) (t : TokenAt) (m : Tokens) → IsShort n m → IsShort (suc n) (before t m)
before_short n t (Ok ts) h = omega (arith, h)
before_short n t (Err r) h = tt

reading_short : (n : ℕ) (p : Piece) (at : ℕ) (place : Place) (end : TokenAt) (more : ℕ → TokenAt → Tokens) → ((s : ℕ) (e : TokenAt) → IsShort n (more s e))
    → IsShort (suc n) (reading p at place end more)
reading_short n (White k) at place end more h = later n (more (k - 1) end) (h (k - 1) end)
reading_short n (Token kind k) at place end more h = before_short n (token_at kind at (at + k) place) (more (k - 1) (token_at End (at + k) (at + k)
    (place_at place.line (place.col + k)))) (h (k - 1) (token_at End (at + k) (at + k) (place_at place.line (place.col + k))))
reading_short n (Bad code) at place end more h = tt

from_short : (skip at : ℕ) (place : Place) (end : TokenAt) (xs : List ℕ) → IsShort (length xs) (tokens_from skip at place end xs)
from_short skip at place end [] = omega arith
from_short zero at place end (b ∷ rest) = reading_short (length rest) (piece_of (b ∷ rest)) at place end (λ skip end. tokens_from skip (at + 1)
    (behind place b) end rest) (λ s e. from_short s (at + 1) (behind place b) e rest)
from_short (suc skip) at place end (b ∷ rest) = later (length rest) (tokens_from skip (at + 1) (behind place b) end rest) (from_short skip (at + 1)
    (behind place b) end rest)

choice_short : (n : ℕ) (b : Bool) (given : Tokens) (r : Refusal) → IsShort n given → IsShort n (if b then given else Err r)
choice_short n true given r h = h
choice_short n false given r h = tt

tokens_short : (first_line : ℕ) (text : List ℕ) → IsShort (length text) (tokens first_line text)
tokens_short first_line text = choice_short (length text) (utf8_valid_len text == length text) (tokens_of_utf8 first_line text) _ (from_short 0 0
    (place_at first_line 1) (token_at End 0 0 (place_at first_line 1)) text)

pub few_tokens : (first_line : ℕ) (text : List ℕ) (ts : List TokenAt) → tokens first_line text ≡ Ok ts → length ts ≤ length text + 1
few_tokens first_line text ts e = subst (λ (m : Tokens). IsShort (length text) m) e (tokens_short first_line text)
