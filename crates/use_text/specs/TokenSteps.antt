-- Reading a text a piece at a time. Only proofs use these words.
use Rattle.std.specs.Prelude.{ℕ, ◌≡◌, ◌+◌, ◌-◌, ◌<◌, ◌≤◌, List, ◌++◌, Option, Some, None, Ok, Err, IfSome, ⊤, length, drop}
use Rattle.use_text.specs.declared.lexer.Step.{Step}
use Rattle.use_text.specs.declared.piece.Piece.{Piece}
use Rattle.use_text.specs.declared.piece.Piece.TheVariants.{White, Token, Bad}
use Rattle.use_text.specs.declared.place.Place.{Place}
use Rattle.use_text.specs.declared.token.Token.{Token as TokenAt}
use Rattle.use_text.specs.Limits.{max_lines, max_text}
use Rattle.use_text.specs.Pieces.{piece_of}
use Rattle.use_text.specs.Places.{IsAdvanced}
use Rattle.use_text.specs.Tokens.{Tokens, before, tokens_from, IsWithin}

-- what was read and then what follows
abbrev pub after_step : Option TokenAt → Tokens → Tokens
after_step None more = more
after_step (Some t) more = before t more

-- these tokens, and then those that follow
abbrev pub before_all : List TokenAt → Tokens → Tokens
before_all ts (Ok more) = Ok (ts ++ more)
before_all ts (Err r) = Err r

-- the piece is not empty, and no longer than what it stands at the front of
abbrev pub IsFront : Piece → ℕ → Type 0
IsFront (White n) count = (0 < n) × (n ≤ count)
IsFront (Token kind n) count = (0 < n) × (n ≤ count)
IsFront (Bad code) count = ⊤

-- a piece of so many bytes stands at a place of the text
pub record IsPieceAt (text : List ℕ) (at : ℕ) (piece : Piece) (count : ℕ) : Type 0 where
  pub is : piece_of (drop at text) ≡ piece
  pub some : 0 < count
  pub within : at + count ≤ length text

-- the numbers of a place in a text that is not too long have room for what follows
pub record IsNearStart (text : List ℕ) (at : ℕ) (place : Place) : Type 0 where
  pub short : length text ≤ max_text
  pub line : place.line ≤ max_lines + at
  pub col : place.col ≤ 1 + at

-- from a place of a text, a step reads what stands there, and what follows it is still to be read
pub record ReadsOn (text : List ℕ) (at : ℕ) (place : Place) (last : TokenAt) (s : Step) : Type 0 where
  pub read : tokens_from 0 at place last (drop at text) ≡ after_step s.token (tokens_from 0 s.at s.place s.end (drop s.at text))
  pub ahead : at < s.at
  pub within : s.at ≤ length text
  pub near : IsAdvanced place s.place (s.at - at)
  pub token : IfSome s.token (IsWithin (length text))
  pub end : IsWithin (length text) s.end
