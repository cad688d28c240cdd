-- What a cutter keeps of the stream, whatever the length of a command.
use Rattle.std.specs.Prelude.{ℕ, ◌≡◌, Bool, true, false, nat_le, if◌then◌else◌, List, [], ◌∷◌, ◌++◌, length, drop, slice_get, Option, Some, None}
use Rattle.std.specs.List.{list_all}
use Rattle.std.specs.Option.{option_map, unwrap_or}
use Rattle.use_text.specs.declared.cut.Cut.{Cut}
use Rattle.use_text.specs.declared.marks.LineMarks.{LineMarks}
use Rattle.use_text.specs.Lines.{is_blank, dark_part, ended_lines, open_line}
use Rattle.use_text.specs.Cuts.{Block, joined, open_block, cuts, ended}
use Rattle.use_text.specs.Limits.{max_command}

abbrev pub is_begun : List ℕ → Bool
is_begun [] = false
is_begun (b ∷ line) = true

-- what tells a line from others, of its bytes so far
abbrev pub marks_of : List ℕ → LineMarks
marks_of line = record {
  begun = is_begun line;
  first = slice_get (dark_part line) 0;
  second = slice_get (dark_part line) 1;
  alone = list_all is_blank (drop 1 (dark_part line));
}

-- a text, where it is no longer than a command may be
abbrev pub kept : List ℕ → Option (List ℕ)
kept text = if nat_le (length text) max_command then Some text else None

-- the text so far of the command that an open line belongs to: the line alone, or behind the lines of a block
abbrev pub text_so_far : Option Block → List ℕ → List ℕ
text_so_far None line = line
text_so_far (Some b) line = joined b.text line

-- an open block as it is kept: the number of its first line, and the text of its lines that have ended
pub record KeptBlock : Type 0 where
  pub first : ℕ
  pub lines : Option (List ℕ)

abbrev pub kept_block : Block → KeptBlock
kept_block b = record { first = b.first; lines = kept (unwrap_or b.text []) }

-- what is kept of a command that has not ended: the marks of its open line, its text so far, and the open block, if the line is in one
pub record Kept : Type 0 where
  pub marks : LineMarks
  pub text : Option (List ℕ)
  pub block : Option KeptBlock

-- what is kept of an open line behind an open block or none
abbrev pub kept_of : Option Block → List ℕ → Kept
kept_of b line = record { marks = marks_of line; text = kept (text_so_far b line); block = option_map kept_block b }

-- what a cutter holds: how many lines have ended, what it keeps of a command that has not ended, in how many bytes, and the commands that it
-- has not given yet
pub record Cutting : Type 0 where
  pub count : ℕ
  pub kept : Kept
  pub held : ℕ
  pub waiting : List Cut

-- the cutter was fed these bytes
pub record StandsFor (c : Cutting) (bytes : List ℕ) : Type 0 where
  pub count : c.count ≡ length (ended_lines bytes)
  pub kept : c.kept ≡ kept_of (open_block 1 None (ended_lines bytes)) (open_line bytes)

-- The cutter was fed these bytes, and then a piece: it stands for both, and the commands that ended by the piece wait.
pub record FeedsOn (old : Cutting) (bytes piece : List ℕ) (new : Cutting) : Type 0 where
  pub stands : StandsFor new (bytes ++ piece)
  pub more : List Cut
  pub commands : ended (bytes ++ piece) ≡ ended bytes ++ more
  pub waiting : new.waiting ≡ old.waiting ++ more

-- the same, whatever it was fed before
abbrev pub IsFed : Cutting → List ℕ → Cutting → Type 0
IsFed old piece new = (bytes : List ℕ) → StandsFor old bytes → FeedsOn old bytes piece new

-- whatever it was fed, these are the commands of the whole input beyond those that have ended
abbrev pub IsFinished : Cutting → List Cut → Type 0
IsFinished old more = (bytes : List ℕ) → StandsFor old bytes → cuts bytes ≡ ended bytes ++ more
