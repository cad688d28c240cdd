-- A text in lexemes: white space, comments and tokens, each the longest. What the tokens of a text are, said by the bytes themselves.
use Rattle.std.specs.Prelude.{ℕ, ◌≡◌, ◌+◌, ◌<◌, ◌≤◌, ◌==◌, Bool, true, false, not, ◌||◌, ◌&&◌, if◌then◌else◌, List, [], ◌∷◌, length, take, drop, codes, Ok, Err}
use Rattle.std.specs.List.{list_all}
use Rattle.use_text.specs.declared.code.Family.TheVariants.{L}
use Rattle.use_text.specs.declared.place.Place.{Place}
use Rattle.use_text.specs.declared.token.Token.{Token as TokenAt}
use Rattle.use_text.specs.declared.token.TokenKind.{TokenKind}
use Rattle.use_text.specs.declared.token.TokenKind.TheVariants.{End, Str}
use Rattle.use_text.specs.declared.words.TheConstants.{SYMBOLS}
use Rattle.use_text.specs.declared.piece.Piece.{Piece}
use Rattle.use_text.specs.declared.piece.Piece.TheVariants.{White, Token, Bad}
use Rattle.use_text.specs.declared.code.Code.{Code}
use Rattle.use_text.specs.Codes.{code_of}
use Rattle.use_text.specs.Refusals.{refusal_at}
use Rattle.use_text.specs.Places.{place_at, behind_all}
use Rattle.use_text.specs.Pieces.{is_white, is_letter, is_digit, is_name_byte, is_in_line, same_text, begins, word_piece, number_piece, at_piece, symbol_piece}
use Rattle.use_text.specs.Tokens.{Tokens, token_at, reading, tokens_of_utf8}

abbrev pub is_nothing : List ℕ → Bool
is_nothing [] = true
is_nothing (b ∷ rest) = false

-- Behind a quote, whether the last byte is the first quote that no backslash takes. No line feed stands before it.
abbrev pub is_string : Bool → List ℕ → Bool
is_string taken [] = false
is_string taken (b ∷ rest) =
    if b == 10 then false
    else (if (b == 39) && not taken then is_nothing rest else is_string ((b == 92) && not taken) rest)

-- behind `/*`, whether the first `*/` stands at the end
abbrev pub is_comment : Bool → List ℕ → Bool
is_comment star [] = false
is_comment star (b ∷ rest) = if (b == 47) && star then is_nothing rest else is_comment (b == 42) rest

abbrev pub is_among : {A : Type 0} → List (A × TokenKind) → (A → List ℕ) → List ℕ → Bool
is_among [] text bytes = false
is_among (row ∷ rows) text bytes = same_text (text row.0) bytes || is_among rows text bytes

unfoldable pub is_symbol : List ℕ → Bool
is_symbol bytes = is_among SYMBOLS (λ t. t.now) bytes

abbrev pub begins_line_comment : List ℕ → Bool
begins_line_comment bytes = begins bytes (codes "--") || begins bytes (codes "//")

abbrev pub begins_comment : List ℕ → Bool
begins_comment bytes = begins bytes (codes "/*")

abbrev pub is_mark : List ℕ → Bool
is_mark bytes =
    if begins_line_comment bytes then list_all is_in_line bytes
    else (if begins_comment bytes then is_comment false (drop 2 bytes) else is_symbol bytes)

-- whether all of the bytes are white space, or one comment, or one token, whatever its length
abbrev pub is_lexeme : List ℕ → Bool
is_lexeme [] = false
is_lexeme (b ∷ rest) =
    if is_white b then list_all is_white rest
    else (if is_letter b then list_all is_name_byte rest
    else (if is_digit b then list_all is_digit rest
    else (if b == 39 then is_string false rest
    else (if b == 64 then list_all is_name_byte rest
    else is_mark (b ∷ rest)))))

abbrev pub mark_lexeme : List ℕ → Piece
mark_lexeme bytes = if begins_line_comment bytes || begins_comment bytes then White (length bytes) else symbol_piece bytes

-- what a lexeme is: white space or a comment, a token, or past a limit
abbrev pub lexeme_piece : List ℕ → Piece
lexeme_piece [] = Bad (code_of L 2)
lexeme_piece (b ∷ rest) =
    if is_white b then White (length (b ∷ rest))
    else (if is_letter b then word_piece (b ∷ rest)
    else (if is_digit b then number_piece (b ∷ rest)
    else (if b == 39 then Token Str (length (b ∷ rest))
    else (if b == 64 then at_piece rest
    else mark_lexeme (b ∷ rest)))))

-- the first n bytes are a lexeme, and no longer front is one
pub record IsLongest (bytes : List ℕ) (n : ℕ) : Type 0 where
  pub within : n ≤ length bytes
  pub is : is_lexeme (take n bytes) ≡ true
  pub longest : (m : ℕ) → n < m → m ≤ length bytes → is_lexeme (take m bytes) ≡ false

-- no front is a lexeme: the bytes have ended, or a rule is broken
abbrev pub HasNoLexeme : List ℕ → Type 0
HasNoLexeme bytes = (m : ℕ) → m ≤ length bytes → is_lexeme (take m bytes) ≡ false

-- lexemes of these lengths stand one behind another, each the longest, and behind them stands none
abbrev pub HasLexemes : List ℕ → List ℕ → Type 0
HasLexemes bytes [] = HasNoLexeme bytes
HasLexemes bytes (n ∷ ns) = IsLongest bytes n × HasLexemes (drop n bytes) ns

-- the rule that is broken where no lexeme stands: a string or a comment that is not closed, or a byte that begins none
abbrev pub broken_code : List ℕ → Code
broken_code [] = code_of L 2
broken_code (b ∷ rest) = if (b == 39) || begins_comment (b ∷ rest) then code_of L 4 else code_of L 2

-- the end of the list, if the bytes have ended
abbrev pub tokens_end : Place → TokenAt → List ℕ → Tokens
tokens_end place end [] = Ok (end ∷ [])
tokens_end place end (b ∷ rest) = Err (refusal_at (broken_code (b ∷ rest)) place)

-- the tokens of lexemes of these lengths, or the refusal of the first that is past a limit, or of the bytes behind the last
abbrev pub lexeme_tokens : ℕ → Place → TokenAt → List ℕ → List ℕ → Tokens
lexeme_tokens at place end bytes [] = tokens_end place end bytes
lexeme_tokens at place end bytes (n ∷ ns) =
    reading (lexeme_piece (take n bytes)) at place end (λ skip end. lexeme_tokens (at + n) (behind_all place (take n bytes)) end (drop n bytes) ns)

abbrev pub text_tokens : ℕ → List ℕ → List ℕ → Tokens
text_tokens first_line text ns = lexeme_tokens 0 (place_at first_line 1) (token_at End 0 0 (place_at first_line 1)) text ns

-- the lexemes of a text are there,
abbrev pub LexemesExist : Type 0
LexemesExist = (text : List ℕ) → (ns : List ℕ) × HasLexemes text ns

-- they are the only ones,
abbrev pub LexemesAreUnique : Type 0
LexemesAreUnique = (text ns ms : List ℕ) → HasLexemes text ns → HasLexemes text ms → ns ≡ ms

-- and the tokens of a text that is UTF-8 are those of its lexemes
abbrev pub TokensAreLexemes : Type 0
TokensAreLexemes = (first_line : ℕ) (text ns : List ℕ) → HasLexemes text ns → tokens_of_utf8 first_line text ≡ text_tokens first_line text ns
