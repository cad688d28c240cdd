-- The commands of a stream.
use Rattle.std.specs.Prelude.{ℕ, ◌+◌, ◌≡◌, ◌≤◌, nat_le, ◌||◌, if◌then◌else◌, List, [], ◌∷◌, ◌++◌, length, Option, Some, None}
use Rattle.std.specs.Option.{unwrap_or}
use Rattle.use_text.specs.declared.cut.Cut.{Cut}
use Rattle.use_text.specs.declared.cut.Fate.{Fate}
use Rattle.use_text.specs.declared.cut.Fate.TheVariants.{Whole, TooLong, Unfinished}
use Rattle.use_text.specs.Limits.{max_command}
use Rattle.use_text.specs.Lines.{lines, ended_lines, is_idle_line, is_opening_line, is_closing_line}

abbrev pub cut_of : List ℕ → ℕ → Fate → Cut
cut_of text line fate = record { text = text; first_line = line; fate = fate }

-- a command of this text, which is too long or else has this fate
abbrev pub sized_cut : List ℕ → ℕ → Fate → Cut
sized_cut text line fate = if nat_le (length text) max_command then cut_of text line fate else cut_of [] line TooLong

-- a block that is open: the number of its first line, and its text so far, where it has a line
pub record Block : Type 0 where
  pub first : ℕ
  pub text : Option (List ℕ)

abbrev pub block_of : ℕ → Option (List ℕ) → Block
block_of first text = record { first = first; text = text }

-- one more line of a text whose lines are joined by line feeds
abbrev pub joined : Option (List ℕ) → List ℕ → List ℕ
joined None line = line
joined (Some text) line = text ++ 10 ∷ line

-- the command of a block
abbrev pub block_cut : Block → Fate → Cut
block_cut b fate = sized_cut (unwrap_or b.text []) b.first fate

-- the commands that a line gives, by its number, behind an open block or none: itself, or the block that it ends
abbrev pub line_cuts : ℕ → Option Block → List ℕ → List Cut
line_cuts n None line = if is_idle_line line || is_opening_line line then [] else sized_cut line n Whole ∷ []
line_cuts n (Some b) line = if is_closing_line line then block_cut b Whole ∷ [] else []

-- the block that is open behind a line: one that the line opens, or the block before it with the line
abbrev pub block_after : ℕ → Option Block → List ℕ → Option Block
block_after n None line = if is_opening_line line then Some (block_of (n + 1) None) else None
block_after n (Some b) line = if is_closing_line line then None else Some (block_of b.first (Some (joined b.text line)))

-- the commands that end in lines, the first of which has this number
abbrev pub lines_cuts : ℕ → Option Block → List (List ℕ) → List Cut
lines_cuts n before [] = []
lines_cuts n before (line ∷ more) = line_cuts n before line ++ lines_cuts (n + 1) (block_after n before line) more

-- the block that is open behind lines
abbrev pub open_block : ℕ → Option Block → List (List ℕ) → Option Block
open_block n before [] = before
open_block n before (line ∷ more) = open_block (n + 1) (block_after n before line) more

-- the command of a block that the input's end cuts off
abbrev pub cut_off : Option Block → List Cut
cut_off None = []
cut_off (Some b) = block_cut b Unfinished ∷ []

-- the commands of a whole input
abbrev pub cuts : List ℕ → List Cut
cuts bytes = lines_cuts 1 None (lines bytes) ++ cut_off (open_block 1 None (lines bytes))

-- the commands that have ended, of an input that may go on
abbrev pub ended : List ℕ → List Cut
ended bytes = lines_cuts 1 None (ended_lines bytes)

-- these commands, and then more
abbrev pub Extends : List Cut → List Cut → Type 0
Extends front all = (rest : List Cut) × (all ≡ front ++ rest)

-- A command that has ended stays as it is, whatever bytes follow.
abbrev pub StaysEnded : Type 0
StaysEnded = (bytes more : List ℕ) → Extends (ended bytes) (ended (bytes ++ more)) × Extends (ended bytes) (cuts (bytes ++ more))

-- the text is not too long, and the line is one of so many
pub record IsCommand (lines : ℕ) (c : Cut) : Type 0 where
  pub text : length c.text ≤ max_command
  pub line : c.first_line ≤ lines
