-- What stands at the front of bytes, by cases on the first byte.
use Rattle.std.specs.Prelude.{ℕ, ◌-◌, ◌+◌, ◌*◌, ◌^◌, ◌==◌, Bool, true, false, not, ◌||◌, ◌&&◌, nat_le, nat_lt, nat_eq, if◌then◌else◌, List, [], ◌∷◌, length, drop, fold, codes, take_while, Option, Some, None, is_some, ℤ, pos}
use Rattle.std.specs.List.{starts_with}
use Rattle.std.specs.Option.{option_map_or}
use Rattle.std.specs.Cmp.Lexicographic.{pointwise}
use Rattle.use_text.specs.declared.code.Family.TheVariants.{L}
use Rattle.use_text.specs.declared.token.TokenKind.{TokenKind}
use Rattle.use_text.specs.declared.token.TokenKind.TheVariants.{Name, Int, Str, AtPre}
use Rattle.use_text.specs.declared.words.TheConstants.{WORDS, SYMBOLS}
use Rattle.use_text.specs.declared.piece.Piece.{Piece}
use Rattle.use_text.specs.declared.piece.Piece.TheVariants.{White, Token, Bad}
use Rattle.use_text.specs.Codes.{code_of}

-- space, tab, carriage return and line feed
abbrev pub is_white : ℕ → Bool
is_white b = (b == 32) || (b == 9) || (b == 13) || (b == 10)

-- how many bytes of white space bytes begin with
abbrev pub white_length : List ℕ → ℕ
white_length bytes = length (take_while is_white bytes)

-- an ASCII letter or `_`
abbrev pub is_letter : ℕ → Bool
is_letter b = (nat_le 97 b && nat_le b 122) || (nat_le 65 b && nat_le b 90) || (b == 95)

abbrev pub is_digit : ℕ → Bool
is_digit b = nat_le 48 b && nat_le b 57

abbrev pub is_name_byte : ℕ → Bool
is_name_byte b = is_letter b || is_digit b

-- a byte of a line
abbrev pub is_in_line : ℕ → Bool
is_in_line b = not (b == 10)

-- the number that digits write
abbrev pub digits_value : List ℕ → ℕ
digits_value digits = fold (λ n d. 10 * n + (d - 48)) 0 digits

abbrev pub same_text : List ℕ → List ℕ → Bool
same_text a b = pointwise nat_eq a b

abbrev pub begins : List ℕ → List ℕ → Bool
begins bytes front = starts_with nat_eq bytes front

-- the kind that the first row of a word gives it; a word without a row is a name
abbrev pub kind_among : {A : Type 0} → List (A × TokenKind) → (A → List ℕ) → List ℕ → TokenKind
kind_among [] text word = Name
kind_among (row ∷ rows) text word = if same_text word (text row.0) then row.1 else kind_among rows text word

unfoldable pub word_kind : List ℕ → TokenKind
word_kind word = kind_among WORDS (λ t. t.now) word

abbrev pub word_piece : List ℕ → Piece
word_piece word = if nat_le (length word) 64 then Token (word_kind word) (length word) else Bad (code_of L 5)

-- a number in the program's range
abbrev pub number_of_digits : List ℕ → Option ℤ
number_of_digits digits = if nat_lt (digits_value digits) (2 ^ 127) then Some (pos (digits_value digits)) else None

abbrev pub number_piece : List ℕ → Piece
number_piece digits = if is_some (number_of_digits digits) then Token Int (length digits) else Bad (code_of L 3)

-- Where a string ends, of which n bytes are read: behind its first quote that no backslash takes. A backslash takes the byte behind it, which
-- stands for the whole character that it begins. A line feed and the end of the text leave the string open.
abbrev pub string_end : ℕ → Bool → List ℕ → Option ℕ
string_end n taken [] = None
string_end n taken (b ∷ rest) =
    if b == 10 then None
    else (if (b == 39) && not taken then Some (n + 1) else string_end (n + 1) ((b == 92) && not taken) rest)

abbrev pub string_piece : List ℕ → Piece
string_piece rest = option_map_or (λ n. Token Str n) (string_end 1 false rest) (Bad (code_of L 4))

-- where a comment ends, of which n bytes are read, the last of them a star or not: behind its first `*/`
abbrev pub comment_end : ℕ → Bool → List ℕ → Option ℕ
comment_end n star [] = None
comment_end n star (b ∷ rest) = if (b == 47) && star then Some (n + 1) else comment_end (n + 1) (b == 42) rest

abbrev pub comment_piece : List ℕ → Piece
comment_piece rest = option_map_or (λ n. White n) (comment_end 2 false rest) (Bad (code_of L 4))

-- `@` and a word: the word is `pre`
abbrev pub at_piece : List ℕ → Piece
at_piece word = if same_text word (codes "pre") then Token AtPre (length word + 1) else Bad (code_of L 2)

-- the first symbol among rows that the bytes begin with
abbrev pub symbol_among : {A : Type 0} → List (A × TokenKind) → (A → List ℕ) → List ℕ → Piece
symbol_among [] text bytes = Bad (code_of L 2)
symbol_among (row ∷ rows) text bytes = if begins bytes (text row.0) then Token row.1 (length (text row.0)) else symbol_among rows text bytes

-- in the table, one that another begins with stands behind it
unfoldable pub symbol_piece : List ℕ → Piece
symbol_piece bytes = symbol_among SYMBOLS (λ t. t.now) bytes

-- a comment to the end of its line, a comment between `/*` and `*/`, or a symbol
abbrev pub mark_piece : List ℕ → Piece
mark_piece bytes =
    if begins bytes (codes "--") || begins bytes (codes "//") then White (length (take_while is_in_line bytes))
    else (if begins bytes (codes "/*") then comment_piece (drop 2 bytes) else symbol_piece bytes)

-- white space, a comment or a token, each the longest
abbrev pub piece_of : List ℕ → Piece
piece_of [] = Bad (code_of L 2)
piece_of (b ∷ rest) =
    if is_white b then White (white_length (b ∷ rest))
    else (if is_letter b then word_piece (take_while is_name_byte (b ∷ rest))
    else (if is_digit b then number_piece (take_while is_digit (b ∷ rest))
    else (if b == 39 then string_piece rest
    else (if b == 64 then at_piece (take_while is_name_byte rest)
    else mark_piece (b ∷ rest)))))

-- a byte behind a backslash stands for itself, or for a line feed or a tab
abbrev pub escaped : ℕ → ℕ
escaped b = if b == 110 then 10 else (if b == 116 then 9 else b)

-- what bytes behind a quote stand for, up to the first quote that no backslash takes
abbrev pub unquoted : Bool → List ℕ → List ℕ
unquoted taken [] = []
unquoted taken (b ∷ rest) =
    if taken then escaped b ∷ unquoted false rest
    else (if b == 39 then [] else (if b == 92 then unquoted true rest else b ∷ unquoted false rest))

-- what a string token stands for
abbrev pub string_of_quoted : List ℕ → List ℕ
string_of_quoted quoted = unquoted false (drop 1 quoted)
