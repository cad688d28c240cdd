-- A cutter and the bytes that it was fed.
use Rattle.std.proofs.Common.{◌≡◌, ℕ, ◌+◌, ◌-◌, ◌<◌, ◌≤◌, List, [], ◌∷◌, ◌++◌, length, take, drop, slice_range, slice_index, arith, refl, sym, ap, subst, ◌∙◌, append_assoc, append-nil, take-add, length-append, All, Option, Some, None, IfSome, option_to_list, Result, Ok, Err, OnOk, OnErr}
use Rattle.std.specs.Option.{option_map}
use Rattle.std.specs.declared.alloc.AllocError.{AllocError}
use Rattle.std.proofs.lemmas.List.{take-append-drop}
use Rattle.std.proofs.lemmas.List.Elements.{All-push}
use Rattle.use_text.specs.declared.cut.Cut.{Cut}
use Rattle.use_text.specs.Lines.{parts, ended_parts, ended_lines, open_line, IsInLine}
use Rattle.use_text.specs.Cuts.{Block, Extends, StaysEnded, IsCommand, line_cuts, block_after, lines_cuts, open_block, cut_off, cuts, ended}
use Rattle.use_text.specs.Keeping.{Cutting, kept_block, kept_of, IsFed, IsFinished}
use Rattle.use_text.specs.KeepingSteps.{extended, ended_cuts, kept_after, finished_cuts, last_cuts}
use Rattle.use_text.proofs.LineLemmas.{glue, ended_go_on, ended_same, open_more, ended_feed, open_feed, range_more, lines_some, lines_none}
use Rattle.use_text.proofs.KeepingLemmas.{extended_of, ended_of, after_of, finished_of}

pub cuts_append : (n : ℕ) (b : Option Block) (xs ys : List (List ℕ)) → lines_cuts n b (xs ++ ys) ≡ lines_cuts n b xs
    ++ lines_cuts (n + length xs) (open_block n b xs) ys
cuts_append n b [] ys = let e : n + 0 ≡ n = omega arith in rw e refl
cuts_append n b (x ∷ xs) ys =
    let e : n + length (x ∷ xs) ≡ n + 1 + length xs = omega arith in
    rw (cuts_append (n + 1) (block_after n b x) xs ys, e, append_assoc) refl

pub block_append : (n : ℕ) (b : Option Block) (xs ys : List (List ℕ)) → open_block n b (xs ++ ys) ≡ open_block (n + length xs) (open_block n b xs) ys
block_append n b [] ys = let e : n + 0 ≡ n = omega arith in rw e refl
block_append n b (x ∷ xs) ys =
    let e : n + length (x ∷ xs) ≡ n + 1 + length xs = omega arith in
    rw (block_append (n + 1) (block_after n b x) xs ys, e) refl

-- within a line
pub goes_on : (c on : Cutting) (more : List ℕ) → IsInLine more → on.kept ≡ extended c.kept more → on.count ≡ c.count → on.waiting ≡ c.waiting → IsFed c more on
goes_on c on more line kept_is count_is waiting_is bytes stands =
    let same = ended_same bytes more line in
    let b = open_block 1 None (ended_lines bytes) in
    record {
      stands = record {
        count = count_is ∙ stands.count ∙ ap length (sym same);
        kept = kept_is ∙ ap (λ k. extended k more) stands.kept ∙ extended_of b (open_line bytes) more ∙ ap (kept_of b) (sym (open_more bytes more line))
            ∙ ap (λ ls. kept_of (open_block 1 None ls) (open_line (bytes ++ more))) (sym same);
      };
      more = [];
      commands = ap (lines_cuts 1 None) same ∙ sym (append-nil (ended bytes));
      waiting = waiting_is ∙ sym (append-nil c.waiting);
    }

-- at a line feed
pub ends_line : (on new : Cutting) → new.kept ≡ kept_after (on.count + 1) on.kept.block on.kept → new.count ≡ on.count + 1 → new.waiting ≡ on.waiting
    ++ ended_cuts (on.count + 1) on.kept.block on.kept → IsFed on (10 ∷ []) new
ends_line on new kept_is count_is waiting_is bytes stands =
    let es = ended_lines bytes in
    let line = open_line bytes in
    let b = open_block 1 None es in
    let n : on.count + 1 ≡ 1 + length es = omega (arith, stands.count) in
    let found : ended_cuts (on.count + 1) on.kept.block on.kept ≡ line_cuts (1 + length es) b line = ap (λ k. ended_cuts (on.count + 1) k.block k) stands.kept
    ∙ ap (λ m. ended_cuts m (option_map kept_block b) (kept_of b line)) n ∙ ended_of (1 + length es) b line in
    let after : kept_after (on.count + 1) on.kept.block on.kept ≡ kept_of (block_after (1 + length es) b line) [] = ap (λ k. kept_after
    (on.count + 1) k.block k) stands.kept ∙ ap (λ m. kept_after m (option_map kept_block b) (kept_of b line)) n ∙ after_of (1 + length es) b line in
    let block : open_block 1 None (es ++ line ∷ []) ≡ block_after (1 + length es) b line = block_append 1 None es (line ∷ []) in
    record {
      stands = record {
        count = count_is ∙ omega (arith, stands.count, ap length (ended_feed bytes), length-append es (line ∷ []));
        kept = kept_is ∙ after ∙ ap (λ x. kept_of x []) (sym block) ∙ ap (λ ls. kept_of (open_block 1 None ls) []) (sym (ended_feed bytes))
            ∙ ap (kept_of (open_block 1 None (ended_lines (bytes ++ 10 ∷ [])))) (sym (open_feed bytes));
      };
      more = line_cuts (1 + length es) b line;
      commands = ap (lines_cuts 1 None) (ended_feed bytes) ∙ cuts_append 1 None es (line ∷ []) ∙ ap (λ x. ended bytes
          ++ x) (append-nil (line_cuts (1 + length es) b line));
      waiting = waiting_is ∙ ap (λ x. on.waiting ++ x) found;
    }

-- one piece after another
pub fed_then : (a b c : Cutting) (p q : List ℕ) → IsFed a p b → IsFed b q c → IsFed a (p ++ q) c
fed_then a b c p q first second bytes stands =
    let f = first bytes stands in
    let s = second (bytes ++ p) f.stands in
    let all : bytes ++ (p ++ q) ≡ (bytes ++ p) ++ q = sym (append_assoc bytes p q) in
    record {
      stands = rw all s.stands;
      more = f.more ++ s.more;
      commands = ap ended all ∙ s.commands ∙ ap (λ l. l ++ s.more) f.commands ∙ append_assoc (ended bytes) f.more s.more;
      waiting = s.waiting ∙ ap (λ l. l ++ s.more) f.waiting ∙ append_assoc a.waiting f.more s.more;
    }

pub fed_none : (c : Cutting) → IsFed c [] c
fed_none c bytes stands =
    let same : bytes ++ [] ≡ bytes = append-nil bytes in
    record {
      stands = rw same stands;
      more = [];
      commands = ap ended same ∙ sym (append-nil (ended bytes));
      waiting = sym (append-nil c.waiting);
    }

pub fed_range : (old c new : Cutting) (piece : List ℕ) (at end : ℕ) → at ≤ end → IsFed old (take at piece) c → IsFed c (slice_range piece at end) new
    → IsFed old (take end piece) new
fed_range old c new piece at end le first second =
    let e : at + (end - at) ≡ end = omega arith in
    let whole : take end piece ≡ take at piece ++ slice_range piece at end = ap (λ n. take n piece) (sym e) ∙ take-add at (end - at) piece in
    rw whole (fed_then old c new (take at piece) (slice_range piece at end) first second)

pub fed_line : (old c on new : Cutting) (piece : List ℕ) (at end : ℕ) → at ≤ end → end < length piece → slice_index piece end ≡ 10 → IsFed old (take at piece) c
    → IsFed c (slice_range piece at end) on → IsFed on (10 ∷ []) new → IsFed old (take (end + 1) piece) new
fed_line old c on new piece at end le lt is first second feed =
    let range : slice_range piece at (end + 1) ≡ slice_range piece at end ++ 10 ∷ [] = range_more piece at end le lt ∙ ap (λ b. slice_range piece at end ++ b
    ∷ []) is in
    fed_range old c new piece at (end + 1) (omega arith) first (rw range (fed_then c on new (slice_range piece at end) (10 ∷ []) second feed))

pub fed_all : (old c new : Cutting) (piece : List ℕ) (at : ℕ) → IsFed old (take at piece) c → IsFed c (drop at piece) new → IsFed old piece new
fed_all old c new piece at first second =
    let whole : piece ≡ take at piece ++ drop at piece = sym (take-append-drop at piece) in
    subst (λ l. IsFed old l new) (sym whole) (fed_then old c new (take at piece) (drop at piece) first second)

pub finished : (c : Cutting) (more : List Cut) → more ≡ finished_cuts (c.count + 1) c.kept.block c.kept → IsFinished c more
finished c more is bytes stands = last (open_line bytes) refl ∙ ap (λ l. ended bytes ++ l) (sym (is ∙ found))
  where
    first : c.count + 1 ≡ 1 + length (ended_lines bytes)
    first = omega (arith, stands.count)

    found : finished_cuts (c.count + 1) c.kept.block c.kept ≡ last_cuts (1 + length (ended_lines bytes)) (open_block 1 None (ended_lines bytes))
        (open_line bytes)
    found =
        let b = open_block 1 None (ended_lines bytes) in
        ap (λ k. finished_cuts (c.count + 1) k.block k) stands.kept ∙ ap (λ m. finished_cuts m (option_map kept_block b) (kept_of b (open_line bytes))) first
        ∙ finished_of (1 + length (ended_lines bytes)) b (open_line bytes)

    last : (rest : List ℕ) → open_line bytes ≡ rest → cuts bytes ≡ ended bytes ++ last_cuts (1 + length (ended_lines bytes)) (open_block 1 None
        (ended_lines bytes)) rest
    last [] at = ap (λ ls. lines_cuts 1 None ls ++ cut_off (open_block 1 None ls)) (lines_none bytes at)
    last (b ∷ rest) at =
        let l = (b ∷ rest) ∷ [] in
        let n = 1 + length (ended_lines bytes) in
        let o = open_block 1 None (ended_lines bytes) in
        let one : lines_cuts 1 None (ended_lines bytes ++ l) ≡ ended bytes ++ line_cuts n o (b ∷ rest) = cuts_append 1 None (ended_lines bytes) l
        ∙ ap (λ x. ended bytes ++ x) (append-nil (line_cuts n o (b ∷ rest))) in
        let two : open_block 1 None (ended_lines bytes ++ l) ≡ block_after n o (b ∷ rest) = block_append 1 None (ended_lines bytes) l in
        ap (λ ls. lines_cuts 1 None ls ++ cut_off (open_block 1 None ls)) (lines_some bytes b rest at) ∙ ap (λ x. x
        ++ cut_off (open_block 1 None (ended_lines bytes ++ l))) one ∙ ap (λ x. (ended bytes ++ line_cuts n o (b ∷ rest)) ++ cut_off x) two
        ∙ append_assoc (ended bytes) (line_cuts n o (b ∷ rest)) (cut_off (block_after n o (b ∷ rest)))

ended_first : (bytes : List ℕ) → Extends (ended bytes) (cuts bytes)
ended_first bytes = last (open_line bytes) refl
  where
    last : (rest : List ℕ) → open_line bytes ≡ rest → Extends (ended bytes) (cuts bytes)
    last [] at = (cut_off (open_block 1 None (ended_lines bytes)), ap (λ ls. lines_cuts 1 None ls ++ cut_off (open_block 1 None ls)) (lines_none bytes at))
    last (b ∷ rest) at =
        let line = (b ∷ rest) ∷ [] in
        let more = lines_cuts (1 + length (ended_lines bytes)) (open_block 1 None (ended_lines bytes)) line in
        let off = cut_off (open_block 1 None (ended_lines bytes ++ line)) in (
          more ++ off,
          ap (λ ls. lines_cuts 1 None ls ++ cut_off (open_block 1 None ls)) (lines_some bytes b rest at) ∙ ap (λ l. l
              ++ off) (cuts_append 1 None (ended_lines bytes) line) ∙ append_assoc (ended bytes) more off,
        )

extends_on : (xs ys zs : List Cut) → Extends xs ys → Extends ys zs → Extends xs zs
extends_on xs ys zs a b = (a.0 ++ b.0, b.1 ∙ ap (λ l. l ++ b.0) a.1 ∙ append_assoc xs a.0 b.0)

pub stays_ended : StaysEnded
stays_ended bytes more =
    let lines = ended_parts (glue (open_line bytes) (parts more)) in
    let later : Extends (ended bytes) (ended (bytes ++ more)) = (
      lines_cuts (1 + length (ended_lines bytes)) (open_block 1 None (ended_lines bytes)) lines,
      ap
          (lines_cuts 1 None) (ended_go_on bytes more) ∙ cuts_append 1 None (ended_lines bytes) lines,
    ) in
    (later, extends_on (ended bytes) (ended (bytes ++ more)) (cuts (bytes ++ more)) later (ended_first (bytes ++ more)))

command_later : (m n : ℕ) (c : Cut) → m ≤ n → IsCommand m c → IsCommand n c
command_later m n c le is = record { text = is.text; line = omega (arith, is.line) }

pub commands_more : (n : ℕ) (waiting : List Cut) (c : Option Cut) → All (IsCommand n) waiting → IfSome c (IsCommand (n + 1)) → All (IsCommand (n + 1)) (waiting
    ++ option_to_list c)
commands_more n waiting None all one = rw (append-nil waiting) (λ k d lt. command_later n (n + 1) _ (omega arith) (all k d lt))
commands_more n waiting (Some c) all one = All-push (IsCommand (n + 1)) waiting c (λ k d lt. command_later n (n + 1) _ (omega arith) (all k d lt)) one

pub commands_pushed : (n : ℕ) (old new : List Cut) (c : Option Cut) (r : Result (Unit {0}) AllocError) → OnOk r (new ≡ old ++ option_to_list c)
    → OnErr r (new ≡ old) → All (IsCommand n) old → IfSome c (IsCommand (n + 1)) → All (IsCommand (n + 1)) new
commands_pushed n old new c (Ok u) ok err all one = rw ok (commands_more n old c all one)
commands_pushed n old new c (Err e) ok err all one = rw err (λ k d lt. command_later n (n + 1) _ (omega arith) (all k d lt))
