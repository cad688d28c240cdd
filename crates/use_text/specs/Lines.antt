-- The lines of bytes.
use Rattle.std.specs.Prelude.{ℕ, ◌==◌, Bool, true, false, ◌||◌, ◌&&◌, if◌then◌else◌, List, [], ◌∷◌, length, drop, take_while, codes, ◌≡◌}
use Rattle.std.specs.List.{list_all}
use Rattle.use_text.specs.Pieces.{begins}

abbrev pub onto_first : ℕ → List (List ℕ) → List (List ℕ)
onto_first b [] = (b ∷ []) ∷ []
onto_first b (part ∷ parts) = (b ∷ part) ∷ parts

-- the parts between line feeds
abbrev pub parts : List ℕ → List (List ℕ)
parts [] = [] ∷ []
parts (b ∷ bytes) = if b == 10 then [] ∷ parts bytes else onto_first b (parts bytes)

-- no line feed is among the bytes
abbrev pub IsInLine : List ℕ → Type 0
IsInLine bytes = parts bytes ≡ bytes ∷ []

-- all but the last part
abbrev pub ended_parts : List (List ℕ) → List (List ℕ)
ended_parts [] = []
ended_parts (part ∷ []) = []
ended_parts (part ∷ next ∷ parts) = part ∷ ended_parts (next ∷ parts)

-- a last part counts if it is not empty
abbrev pub counted_parts : List (List ℕ) → List (List ℕ)
counted_parts [] = []
counted_parts ([] ∷ []) = []
counted_parts ((b ∷ bytes) ∷ []) = (b ∷ bytes) ∷ []
counted_parts (part ∷ next ∷ parts) = part ∷ counted_parts (next ∷ parts)

abbrev pub last_part : List (List ℕ) → List ℕ
last_part [] = []
last_part (part ∷ []) = part
last_part (part ∷ next ∷ parts) = last_part (next ∷ parts)

-- the lines of bytes
abbrev pub lines : List ℕ → List (List ℕ)
lines bytes = counted_parts (parts bytes)

-- the lines that a line feed ends
abbrev pub ended_lines : List ℕ → List (List ℕ)
ended_lines bytes = ended_parts (parts bytes)

-- what follows the last line feed
abbrev pub open_line : List ℕ → List ℕ
open_line bytes = last_part (parts bytes)

-- space, tab and carriage return
abbrev pub is_blank : ℕ → Bool
is_blank b = (b == 32) || (b == 9) || (b == 13)

-- a line from its first byte on that is not white
abbrev pub dark_part : List ℕ → List ℕ
dark_part line = drop (length (take_while is_blank line)) line

-- nothing dark, or a comment
abbrev pub is_idle : List ℕ → Bool
is_idle [] = true
is_idle (b ∷ rest) = begins (b ∷ rest) (codes "--") || begins (b ∷ rest) (codes "//")

-- this one byte, and white behind it
abbrev pub is_only : ℕ → List ℕ → Bool
is_only mark [] = false
is_only mark (b ∷ rest) = (b == mark) && list_all is_blank rest

-- a line that is white, or whose first bytes that are not white begin a comment
abbrev pub is_idle_line : List ℕ → Bool
is_idle_line line = is_idle (dark_part line)

-- `\` between white
abbrev pub is_opening_line : List ℕ → Bool
is_opening_line line = is_only 92 (dark_part line)

-- `.` between white
abbrev pub is_closing_line : List ℕ → Bool
is_closing_line line = is_only 46 (dark_part line)
