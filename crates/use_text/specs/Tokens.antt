-- The tokens of a text, or the refusal of the first bytes that are none.
use Rattle.std.specs.Prelude.{ℕ, zero, suc, ◌≡◌, ◌+◌, ◌-◌, ◌≤◌, List, [], ◌∷◌, Result, Ok, Err, ⊤, length, take, ◌==◌, if◌then◌else◌}
use Rattle.std.specs.Str.Lossy.{utf8_valid_len}
use Rattle.use_text.specs.declared.code.Family.TheVariants.{L}
use Rattle.use_text.specs.Codes.{code_of}
use Rattle.use_text.specs.declared.lexer.LexFault.{LexFault}
use Rattle.use_text.specs.declared.lexer.LexFault.TheVariants.{Memory, Bad as Refused}
use Rattle.use_text.specs.declared.place.Place.{Place}
use Rattle.use_text.specs.declared.refusal.Refusal.{Refusal}
use Rattle.use_text.specs.declared.token.Token.{Token as TokenAt}
use Rattle.use_text.specs.declared.token.TokenKind.{TokenKind}
use Rattle.use_text.specs.declared.token.TokenKind.TheVariants.{End}
use Rattle.use_text.specs.declared.piece.Piece.{Piece}
use Rattle.use_text.specs.declared.piece.Piece.TheVariants.{White, Token, Bad}
use Rattle.use_text.specs.Kinds.{number_of}
use Rattle.use_text.specs.Places.{place_at, behind, behind_all}
use Rattle.use_text.specs.Pieces.{piece_of}
use Rattle.use_text.specs.Refusals.{refusal_at}

abbrev pub Tokens : Type 0
Tokens = Result (List TokenAt) Refusal

abbrev pub token_at : TokenKind → ℕ → ℕ → Place → TokenAt
token_at kind start end place = record { kind = number_of kind; start = start; end = end; place = place }

-- a token in front of those that follow
abbrev pub before : TokenAt → Tokens → Tokens
before t (Ok ts) = Ok (t ∷ ts)
before t (Err r) = Err r

-- what a piece at a place gives, where `more` gives what follows its first byte: how many bytes are the piece's still, and the end so far
abbrev pub reading : Piece → ℕ → Place → TokenAt → (ℕ → TokenAt → Tokens) → Tokens
reading (White n) at place end more = more (n - 1) end
reading (Token kind n) at place end more =
    before (token_at kind at (at + n) place) (more (n - 1) (token_at End (at + n) (at + n) (place_at place.line (place.col + n))))
reading (Bad code) at place end more = Err (refusal_at code place)

-- The tokens of bytes that stand at a place of a text. The first `skip` of them belong to a piece that has begun, and `end` is the token
-- that stands behind the tokens so far.
abbrev pub tokens_from : ℕ → ℕ → Place → TokenAt → List ℕ → Tokens
tokens_from skip at place end [] = Ok (end ∷ [])
tokens_from zero at place end (b ∷ rest) = reading (piece_of (b ∷ rest)) at place end (λ skip end. tokens_from skip (at + 1) (behind place b) end rest)
tokens_from (suc skip) at place end (b ∷ rest) = tokens_from skip (at + 1) (behind place b) end rest

-- the tokens of a text that is UTF-8, whose first line has this number
abbrev pub tokens_of_utf8 : ℕ → List ℕ → Tokens
tokens_of_utf8 first_line text = tokens_from 0 0 (place_at first_line 1) (token_at End 0 0 (place_at first_line 1)) text

-- the place behind the longest front of the text that is UTF-8
abbrev pub utf8_end : ℕ → List ℕ → Place
utf8_end first_line text = behind_all (place_at first_line 1) (take (utf8_valid_len text) text)

-- the tokens of a text whose first line has this number; a text that is not UTF-8 is refused at its first byte that is not
abbrev pub tokens : ℕ → List ℕ → Tokens
tokens first_line text =
    if utf8_valid_len text == length text then tokens_of_utf8 first_line text
    else Err (refusal_at (code_of L 1) (utf8_end first_line text))

-- the answer of a lexer: the tokens, or their refusal
abbrev pub Lexes : Tokens → Result (List TokenAt) LexFault → Type 0
Lexes given (Ok ts) = given ≡ Ok ts
Lexes given (Err Memory) = ⊤
Lexes given (Err (Refused r)) = given ≡ Err r

-- the token stands in a text of this length
abbrev pub IsWithin : ℕ → TokenAt → Type 0
IsWithin len t = (t.start ≤ t.end) × (t.end ≤ len)
