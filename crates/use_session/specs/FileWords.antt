-- Commands that open a file, and the names that they give.
use Rattle.std.specs.Prelude.{ℕ, ◌-◌, ◌==◌, ◌&&◌, not, nat_eq, nat_le, nat_lt, true, false, if◌then◌else◌, Bool, codes, take, drop, length, slice_index, List, [], ◌∷◌, Result, Ok, Err}
use Rattle.std.specs.List.{list_all}
use Rattle.std.specs.Str.Lossy.{utf8_valid_len}
use Rattle.use_text.specs.declared.code.Code.{Code}
use Rattle.use_text.specs.declared.code.Family.TheVariants.{L, S}
use Rattle.use_text.specs.declared.cut.Cut.{Cut}
use Rattle.use_text.specs.declared.cut.Fate.{Fate}
use Rattle.use_text.specs.declared.cut.Fate.TheVariants.{Whole}
use Rattle.use_text.specs.declared.place.Place.{Place}
use Rattle.use_text.specs.Codes.{code_of}
use Rattle.use_text.specs.Pieces.{begins, is_name_byte, is_white, white_length}
use Rattle.use_text.specs.Places.{behind_all, place_at}

abbrev pub ends_word : List ℕ → Bool
ends_word [] = true
ends_word (b ∷ rest) = not (is_name_byte b)

-- a text without the white space that it begins with
abbrev pub dark : List ℕ → List ℕ
dark text = drop (white_length text) text

-- without the white space at its end
abbrev pub trimmed : List ℕ → List ℕ
trimmed [] = []
trimmed (b ∷ rest) = if list_all is_white (b ∷ rest) then [] else b ∷ trimmed rest

-- behind white space stands the word `open`: such a command is not split into tokens
abbrev pub opens_file : List ℕ → Bool
opens_file text = begins (dark text) (codes "open") && ends_word (drop 4 (dark text))

-- the place of the first byte that is not white
abbrev pub first_place : ℕ → List ℕ → Place
first_place line text = behind_all (place_at line 1) (take (white_length text) text)

-- single quotes stand around it
abbrev pub is_quoted : List ℕ → Bool
is_quoted name = nat_le 2 (length name) && (slice_index name 0 == 39) && (slice_index name (length name - 1) == 39)

abbrev pub without_quotes : List ℕ → List ℕ
without_quotes name = if is_quoted name then take (length name - 2) (drop 1 name) else name

-- what stands behind the word, without the white space and the quotes around it
abbrev pub file_name : List ℕ → List ℕ
file_name text = without_quotes (trimmed (dark (drop 4 (dark text))))

-- the most bytes of a file's name
abbrev pub max_name : ℕ
max_name = 255

-- a name that a file may have, or the rule that it breaks
abbrev pub judged : List ℕ → Result (List ℕ) Code
judged name =
    if not (utf8_valid_len name == length name) then Err (code_of L 1)
    else (if nat_eq (length name) 0 then Err (code_of S 1)
    else (if nat_lt max_name (length name) then Err (code_of L 5)
    else Ok name))

-- the command was cut out whole, and opens a file
abbrev pub opens_of_fate : Fate → List ℕ → Bool
opens_of_fate Whole text = opens_file text
opens_of_fate _ text = false

abbrev pub is_open : Cut → Bool
is_open cut = opens_of_fate cut.fate cut.text
