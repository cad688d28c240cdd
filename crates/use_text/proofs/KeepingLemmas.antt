-- What is kept of a command that has not ended is what its bytes say.
use Rattle.std.proofs.Common.{◌≡◌, ℕ, suc, ◌+◌, ◌==◌, ◌||◌, ◌&&◌, Bool, true, false, if◌then◌else◌, nat_le, List, [], ◌∷◌, ◌++◌, length, take, drop, slice_get, Option, Some, None, option_and_then, refl, sym, ap, ◌∙◌, arith, append_assoc, length-append}
use Rattle.std.specs.List.{list_all, prefix_len}
use Rattle.std.specs.Option.{option_map, unwrap_or}
use Rattle.std.proofs.lemmas.List.Folds.{list_all-append}
use Rattle.std.proofs.lemmas.Bool.Decides.{nat_tests}
use Rattle.use_text.specs.declared.cut.Cut.{Cut}
use Rattle.use_text.specs.declared.cut.Fate.{Fate}
use Rattle.use_text.specs.declared.marks.LineMarks.{LineMarks}
use Rattle.use_text.specs.Lines.{is_blank, dark_part, is_idle, is_only, is_idle_line, is_opening_line, is_closing_line}
use Rattle.use_text.specs.declared.cut.Fate.TheVariants.{Whole, TooLong, Unfinished}
use Rattle.use_text.specs.Cuts.{Block, block_of, cut_of, joined, sized_cut, block_cut, line_cuts, block_after, cut_off}
use Rattle.use_text.specs.Limits.{max_command}
use Rattle.use_text.specs.Keeping.{is_begun, marks_of, kept, text_so_far, KeptBlock, kept_block, Kept, kept_of}
use Rattle.use_text.specs.KeepingSteps.{marks_on, is_byte, is_idle_front, is_idle_mark, is_only_mark, text_cut, nothing, block_begun, block_on, extended, ended_cuts, kept_after, finished_cuts, last_cuts}

begun_on : (line more : List ℕ) → is_begun line || is_begun more ≡ is_begun (line ++ more)
begun_on [] more = refl
begun_on (b ∷ line) more = refl

-- a white byte in front does not count
dark_white : (b : ℕ) (line : List ℕ) → is_blank b ≡ true → dark_part (b ∷ line) ≡ dark_part line
dark_white b line h = rw h (by_length (prefix_len is_blank line))
  where
    by_length : (n : ℕ) → drop (length (take (1 + n) (b ∷ line))) (b ∷ line) ≡ drop (length (take n line)) line
    by_length n = let e : 1 + n ≡ suc n = omega arith in rw e refl

dark_dark : (b : ℕ) (line : List ℕ) → is_blank b ≡ false → dark_part (b ∷ line) ≡ b ∷ line
dark_dark b line h = rw h refl

-- a line goes on behind its dark part, or begins it
abbrev dark_then : List ℕ → List ℕ → List ℕ
dark_then [] more = dark_part more
dark_then (b ∷ rest) more = (b ∷ rest) ++ more

dark_on : (line more : List ℕ) → dark_part (line ++ more) ≡ dark_then (dark_part line) more
dark_on [] more = refl
dark_on (b ∷ line) more = by_blank (dark_on line more) (is_blank b) refl
  where
    by_blank : dark_part (line ++ more) ≡ dark_then (dark_part line) more → (t : Bool) → is_blank b ≡ t → dark_part (b ∷ (line
        ++ more)) ≡ dark_then (dark_part (b ∷ line)) more
    by_blank rest true h = dark_white b (line ++ more) h ∙ rest ∙ ap (λ d. dark_then d more) (sym (dark_white b line h))
    by_blank rest false h = dark_dark b (line ++ more) h ∙ ap (λ d. dark_then d more) (sym (dark_dark b line h))

-- the marks of a line with this dark part
abbrev marks_by : Bool → List ℕ → LineMarks
marks_by begun d = record { begun = begun; first = slice_get d 0; second = slice_get d 1; alone = list_all is_blank (drop 1 d) }

marks_by_on : (begun : Bool) (d more : List ℕ) → marks_on (marks_by begun d) more ≡ marks_by (begun || is_begun more) (dark_then d more)
marks_by_on begun [] more = refl
marks_by_on begun (b ∷ []) more = refl
marks_by_on begun (b ∷ c ∷ rest) more = rw (list_all-append is_blank (c ∷ rest) more) refl

marks_of_more : (line more : List ℕ) → marks_on (marks_of line) more ≡ marks_of (line ++ more)
marks_of_more line more = marks_by_on (is_begun line) (dark_part line) more ∙ ap (λ t. marks_by t (dark_then (dark_part line) more)) (begun_on line more)
    ∙ ap (marks_by (is_begun (line ++ more))) (sym (dark_on line more))

idle_front : (d : List ℕ) → is_idle_front (slice_get d 0) (slice_get d 1) ≡ is_idle d
idle_front [] = refl
idle_front (b ∷ []) = by_byte (45 == b) (47 == b)
  where
    by_byte : (s t : Bool) → false ≡ (s && false) || (t && false)
    by_byte true true = refl
    by_byte true false = refl
    by_byte false true = refl
    by_byte false false = refl
idle_front (b ∷ c ∷ rest) = by_bytes (45 == b) (45 == c) (47 == b) (47 == c)
  where
    by_bytes : (s t u v : Bool) → (s && t) || (u && v) ≡ (s && (t && true)) || (u && (v && true))
    by_bytes s true u true = refl
    by_bytes s true u false = refl
    by_bytes s false u true = refl
    by_bytes s false u false = refl

idle_of : (line : List ℕ) → is_idle_mark (marks_of line) ≡ is_idle_line line
idle_of line = idle_front (dark_part line)

only_front : (mark : ℕ) (d : List ℕ) → is_byte (slice_get d 0) mark && list_all is_blank (drop 1 d) ≡ is_only mark d
only_front mark [] = refl
only_front mark (b ∷ rest) = refl

only_of : (mark : ℕ) (line : List ℕ) → is_only_mark mark (marks_of line) ≡ is_only mark (dark_part line)
only_of mark line = only_front mark (dark_part line)

-- a text with more bytes is kept where both fit
kept_more : (text more : List ℕ) → option_and_then (λ t. kept (t ++ more)) (kept text) ≡ kept (text ++ more)
kept_more text more = by_size (nat_le (length text) max_command) refl
  where
    by_size : (t : Bool) → nat_le (length text) max_command ≡ t → option_and_then (λ t. kept (t ++ more)) (if t then Some text else None) ≡ kept (text ++ more)
    by_size true h = refl
    by_size false h =
        let long : nat_le (length (text ++ more)) max_command ≡ false = grind (arith, nat_tests, length-append text more) in
        rw long refl

cut_of_kept : (text : List ℕ) (n : ℕ) (fate : Fate) → text_cut (kept text) n fate ≡ sized_cut text n fate
cut_of_kept text n fate = by_size (nat_le (length text) max_command)
  where
    by_size : (t : Bool) → text_cut (if t then Some text else None) n fate ≡ (if t then cut_of text n fate else cut_of [] n TooLong)
    by_size true = refl
    by_size false = refl

text_more : (b : Option Block) (line more : List ℕ) → text_so_far b line ++ more ≡ text_so_far b (line ++ more)
text_more None line more = refl
text_more (Some b) line more = by_text b.text
  where
    by_text : (text : Option (List ℕ)) → joined text line ++ more ≡ joined text (line ++ more)
    by_text None = refl
    by_text (Some text) = append_assoc text (10 ∷ line) more

abbrev made : LineMarks → Option (List ℕ) → Option KeptBlock → Kept
made marks text block = record { marks = marks; text = text; block = block }

-- the open line goes on
pub extended_of : (b : Option Block) (line more : List ℕ) → extended (kept_of b line) more ≡ kept_of b (line ++ more)
extended_of b line more =
    let text = kept_more (text_so_far b line) more ∙ ap kept (text_more b line more) in
    ap (λ m. made m (option_and_then (λ t. kept (t ++ more)) (kept (text_so_far b line))) (option_map kept_block b)) (marks_of_more line more)
    ∙ ap (λ t. made (marks_of (line ++ more)) t (option_map kept_block b)) text

-- the open line ends
pub ended_of : (n : ℕ) (b : Option Block) (line : List ℕ) → ended_cuts n (option_map kept_block b) (kept_of b line) ≡ line_cuts n b line
ended_of n None line = rw (idle_of line, only_of 92 line, cut_of_kept line n Whole) refl
ended_of n (Some b) line = rw (only_of 46 line, cut_of_kept (unwrap_or b.text []) b.first Whole) refl

pub after_of : (n : ℕ) (b : Option Block) (line : List ℕ) → kept_after n (option_map kept_block b) (kept_of b line) ≡ kept_of (block_after n b line) []
after_of n None line = rw (only_of 92 line) (by_opening (is_opening_line line))
  where
    by_opening : (t : Bool) → (if t then block_begun (n + 1) else nothing) ≡ kept_of (if t then Some (block_of (n + 1) None) else None) []
    by_opening true = refl
    by_opening false = refl
after_of n (Some b) line = rw (only_of 46 line) (by_closing (is_closing_line line))
  where
    by_closing : (t : Bool) → (if t then nothing else block_on b.first (kept (joined b.text line))) ≡ kept_of (if t then None else Some (block_of b.first (Some
        (joined b.text line)))) []
    by_closing true = refl
    by_closing false = ap (λ t. made (marks_of []) t (Some (record { first = b.first; lines = kept (joined b.text line) }))) (kept_more (joined b.text line) (10
        ∷ []))

-- the input ends
pub finished_of : (n : ℕ) (b : Option Block) (line : List ℕ) → finished_cuts n (option_map kept_block b) (kept_of b line) ≡ last_cuts n b line
finished_of n None [] = refl
finished_of n None (c ∷ line) = rw (idle_of (c ∷ line), only_of 92 (c ∷ line), cut_of_kept (c ∷ line) n Whole) (by_line (is_opening_line (c
    ∷ line)) (is_idle_line (c ∷ line)))
  where
    one : List Cut
    one = sized_cut (c ∷ line) n Whole ∷ []

    by_line : (opens idle : Bool) → (if opens then cut_of [] (n + 1) Unfinished ∷ [] else (if idle then [] else one)) ≡ (if idle || opens then [] else one)
        ++ cut_off (if opens then Some (block_of (n + 1) None) else None)
    by_line true true = refl
    by_line true false = refl
    by_line false true = refl
    by_line false false = refl
finished_of n (Some b) [] = rw (cut_of_kept (unwrap_or b.text []) b.first Unfinished) refl
finished_of n (Some b) (c ∷ line) = rw (
  only_of 46 (c ∷ line),
  cut_of_kept (unwrap_or b.text []) b.first Whole,
  cut_of_kept (joined b.text (c
      ∷ line)) b.first Unfinished,
) (by_closing (is_closing_line (c ∷ line)))
  where
    by_closing : (t : Bool) → (if t then sized_cut (unwrap_or b.text []) b.first Whole ∷ [] else sized_cut (joined b.text (c ∷ line)) b.first Unfinished ∷ [])
        ≡ (if t then block_cut b Whole ∷ [] else []) ++ cut_off (if t then None else Some (block_of b.first (Some (joined b.text (c ∷ line)))))
    by_closing true = refl
    by_closing false = refl
