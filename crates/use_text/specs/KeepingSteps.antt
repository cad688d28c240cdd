-- What is kept of a command that has not ended, from one byte and one line to the next. Only proofs use these words.
use Rattle.std.specs.Prelude.{ℕ, ◌+◌, ◌==◌, ◌||◌, ◌&&◌, Bool, true, false, if◌then◌else◌, List, [], ◌∷◌, ◌++◌, take, slice_get, Option, Some, None, option_and_then}
use Rattle.std.specs.List.{list_all}
use Rattle.std.specs.Option.{option_map, option_or}
use Rattle.use_text.specs.declared.cut.Cut.{Cut}
use Rattle.use_text.specs.declared.cut.Fate.{Fate}
use Rattle.use_text.specs.declared.cut.Fate.TheVariants.{Whole, TooLong, Unfinished}
use Rattle.use_text.specs.declared.block.OpenBlock.{OpenBlock}
use Rattle.use_text.specs.declared.marks.LineMarks.{LineMarks}
use Rattle.use_text.specs.Lines.{is_blank}
use Rattle.use_text.specs.Cuts.{Block, cut_of, line_cuts, block_after, cut_off}
use Rattle.use_text.specs.Keeping.{is_begun, marks_of, kept, Kept, KeptBlock}

-- the marks of a line with more bytes
abbrev pub marks_from : Option ℕ → LineMarks → List ℕ → LineMarks
marks_from None m more = let n = marks_of more in record { begun = m.begun || is_begun more; first = n.first; second = n.second; alone = n.alone }
marks_from (Some b) m more = record {
  begun = m.begun || is_begun more;
  first = Some b;
  second = option_or m.second (slice_get more 0);
  alone = m.alone && list_all is_blank more;
}

abbrev pub marks_on : LineMarks → List ℕ → LineMarks
marks_on m more = marks_from m.first m more

abbrev pub is_byte : Option ℕ → ℕ → Bool
is_byte None b = false
is_byte (Some a) b = a == b

abbrev pub is_idle_front : Option ℕ → Option ℕ → Bool
is_idle_front None second = true
is_idle_front (Some b) None = false
is_idle_front (Some b) (Some c) = ((45 == b) && (45 == c)) || ((47 == b) && (47 == c))

abbrev pub is_idle_mark : LineMarks → Bool
is_idle_mark m = is_idle_front m.first m.second

abbrev pub is_only_mark : ℕ → LineMarks → Bool
is_only_mark mark m = is_byte m.first mark && m.alone

-- a command of this text, or of one that is too long
abbrev pub text_cut : Option (List ℕ) → ℕ → Fate → Cut
text_cut None line fate = cut_of [] line TooLong
text_cut (Some text) line fate = cut_of text line fate

-- with more bytes of the open line
abbrev pub extended : Kept → List ℕ → Kept
extended k more = record { marks = marks_on k.marks more; text = option_and_then (λ t. kept (t ++ more)) k.text; block = k.block }

-- with no open block, and an empty line
abbrev pub nothing : Kept
nothing = record { marks = marks_of []; text = Some []; block = None }

-- with an open block whose lines have this text, where it has lines, and an empty line
abbrev pub block_begun : ℕ → Kept
block_begun first = record { marks = marks_of []; text = Some []; block = Some (record { first = first; lines = Some [] }) }

abbrev pub block_on : ℕ → Option (List ℕ) → Kept
block_on first text = record {
  marks = marks_of [];
  text = option_and_then (λ t. kept (t ++ 10 ∷ [])) text;
  block = Some (record { first = first; lines = text });
}

-- the commands that the open line gives, where it ends and has this number
abbrev pub ended_cuts : ℕ → Option KeptBlock → Kept → List Cut
ended_cuts n None k = if is_idle_mark k.marks || is_only_mark 92 k.marks then [] else text_cut k.text n Whole ∷ []
ended_cuts n (Some b) k = if is_only_mark 46 k.marks then text_cut b.lines b.first Whole ∷ [] else []

-- what is kept behind it
abbrev pub kept_after : ℕ → Option KeptBlock → Kept → Kept
kept_after n None k = if is_only_mark 92 k.marks then block_begun (n + 1) else nothing
kept_after n (Some b) k = if is_only_mark 46 k.marks then nothing else block_on b.first k.text

-- the commands that the input's end makes of the open line, which has this number
abbrev pub finished_cuts : ℕ → Option KeptBlock → Kept → List Cut
finished_cuts n None k =
    if is_only_mark 92 k.marks then cut_of [] (n + 1) Unfinished ∷ []
    else (if is_idle_mark k.marks then [] else text_cut k.text n Whole ∷ [])
finished_cuts n (Some b) k =
    if is_only_mark 46 k.marks then text_cut b.lines b.first Whole ∷ []
    else text_cut (if k.marks.begun then k.text else b.lines) b.first Unfinished ∷ []

-- the commands that a last line gives, behind an open block or none
abbrev pub last_cuts : ℕ → Option Block → List ℕ → List Cut
last_cuts n before [] = cut_off before
last_cuts n before (b ∷ line) = line_cuts n before (b ∷ line) ++ cut_off (block_after n before (b ∷ line))

-- the text of bytes that are held, where they are all of it
abbrev pub held_text : Bool → List ℕ → Option (List ℕ)
held_text long bytes = if long then None else Some bytes

-- an open block whose lines are the front of bytes that are held
abbrev pub held_block : List ℕ → OpenBlock → KeptBlock
held_block bytes b = record { first = b.first_line; lines = option_map (λ n. take n bytes) b.end }

abbrev pub end_or_0 : Option ℕ → ℕ
end_or_0 None = 0
end_or_0 (Some n) = n

-- where the lines of an open block end in the bytes that are held
abbrev pub lines_end : Option OpenBlock → ℕ
lines_end None = 0
lines_end (Some b) = end_or_0 b.end

-- the number of the first line of an open block, or 0
abbrev pub first_of : Option KeptBlock → ℕ
first_of None = 0
first_of (Some b) = b.first

-- what is kept, and how many bytes of it are held
pub record Holding : Type 0 where
  pub kept : Kept
  pub held : ℕ
