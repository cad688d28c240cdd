-- The lines of bytes that come in pieces.
use Rattle.std.proofs.Common.{◌≡◌, ◌≢◌, ℕ, ◌+◌, ◌-◌, ◌<◌, ◌≤◌, ◌==◌, Bool, true, false, if◌then◌else◌, List, [], ◌∷◌, ◌++◌, length, drop, slice_index, slice_range, arith, refl, sym, ap, ◌∙◌, append-nil, length-drop}
use Rattle.std.proofs.lemmas.List.{take_more, get_or-drop}
use Rattle.std.proofs.lemmas.Bool.Decides.{nat_tests}
use Rattle.use_text.specs.Lines.{onto_first, parts, ended_parts, counted_parts, last_part, lines, ended_lines, open_line, IsInLine}

-- bytes in front of the first part
abbrev pub glue : List ℕ → List (List ℕ) → List (List ℕ)
glue xs [] = xs ∷ []
glue xs (part ∷ parts) = (xs ++ part) ∷ parts

glue_nil : (ps : List (List ℕ)) (b : ℕ) → glue [] (onto_first b ps) ≡ onto_first b ps
glue_nil [] b = refl
glue_nil (p ∷ ps) b = refl

pub glue_none : (bs : List ℕ) → glue [] (parts bs) ≡ parts bs
glue_none [] = refl
glue_none (b ∷ bs) = by_feed (b == 10)
  where
    by_feed : (t : Bool) → glue [] (if t then [] ∷ parts bs else onto_first b (parts bs)) ≡ (if t then [] ∷ parts bs else onto_first b (parts bs))
    by_feed true = refl
    by_feed false = glue_nil (parts bs) b

-- one more byte in front, and then what is glued
onto_glue : (b : ℕ) (xs : List ℕ) (ps : List (List ℕ)) → onto_first b (glue xs ps) ≡ glue (b ∷ xs) ps
onto_glue b xs [] = refl
onto_glue b xs (p ∷ ps) = refl

-- all the parts are those that have ended, and the open one
pub parts_end : (bs : List ℕ) → parts bs ≡ ended_lines bs ++ open_line bs ∷ []
parts_end [] = refl
parts_end (b ∷ bs) = ends (if b == 10 then [] ∷ parts bs else onto_first b (parts bs)) (by_feed (b == 10) (parts bs))
  where
    some : List (List ℕ) → Type 0
    some [] = ⊥
    some (p ∷ ps) = Unit {0}

    by_feed : (t : Bool) (ps : List (List ℕ)) → some (if t then [] ∷ ps else onto_first b ps)
    by_feed true ps = tt
    by_feed false [] = tt
    by_feed false (p ∷ ps) = tt

    ends : (ps : List (List ℕ)) → some ps → ps ≡ ended_parts ps ++ last_part ps ∷ []
    ends [] h = absurd h
    ends (p ∷ []) h = refl
    ends (p ∷ q ∷ ps) h = ap (λ l. p ∷ l) (ends (q ∷ ps) tt)

range_none : (xs : List ℕ) (i : ℕ) → slice_range xs i i ≡ []
range_none xs i = let e : i - i ≡ 0 = omega arith in rw e refl

pub range_more : (xs : List ℕ) (i j : ℕ) → i ≤ j → j < length xs → slice_range xs i (j + 1) ≡ slice_range xs i j ++ slice_index xs j ∷ []
range_more xs i j le lt =
    let e : j + 1 - i ≡ j - i + 1 = omega arith in
    let f : i + (j - i) ≡ j = omega arith in
    rw (e, take_more (drop i xs) (j - i) 0 (omega (arith, length-drop i xs)), get_or-drop i xs (j - i) 0, f) refl

-- there is a part
abbrev pub HasPart : List (List ℕ) → Type 0
HasPart [] = ⊥
HasPart (p ∷ ps) = Unit {0}

pub parts_some : (bs : List ℕ) → HasPart (parts bs)
parts_some [] = tt
parts_some (b ∷ bs) = by_feed (b == 10) (parts bs)
  where
    by_feed : (t : Bool) (ps : List (List ℕ)) → HasPart (if t then [] ∷ ps else onto_first b ps)
    by_feed true ps = tt
    by_feed false [] = tt
    by_feed false (p ∷ ps) = tt

pub glue_some : (xs : List ℕ) (ps : List (List ℕ)) → HasPart (glue xs ps)
glue_some xs [] = tt
glue_some xs (p ∷ ps) = tt

-- parts that go on
abbrev GoesOn : List (List ℕ) → List (List ℕ) → List (List ℕ) → Type 0
GoesOn ps more all = all ≡ ended_parts ps ++ glue (last_part ps) more

feed_on : (ps more all : List (List ℕ)) → HasPart ps → GoesOn ps more all → GoesOn ([] ∷ ps) more ([] ∷ all)
feed_on [] more all some is = absurd some
feed_on (p ∷ ps) more all some is = ap (λ l. [] ∷ l) is

byte_on : (b : ℕ) (ps more all : List (List ℕ)) → HasPart ps → GoesOn ps more all → GoesOn (onto_first b ps) more (onto_first b all)
byte_on b [] more all some is = absurd some
byte_on b (p ∷ []) more all some is = ap (onto_first b) is ∙ onto_glue b p more
byte_on b (p ∷ q ∷ ps) more all some is = ap (onto_first b) is

one_on : (b : ℕ) (bs more : List ℕ) → GoesOn (parts bs) (parts more) (parts (bs ++ more)) → GoesOn (parts (b ∷ bs)) (parts more) (parts ((b ∷ bs) ++ more))
one_on b bs more rest = by_feed (b == 10)
  where
    by_feed : (t : Bool) → GoesOn (if t then [] ∷ parts bs else onto_first b (parts bs)) (parts more) (if t then [] ∷ parts (bs
        ++ more) else onto_first b (parts (bs ++ more)))
    by_feed true = feed_on (parts bs) (parts more) (parts (bs ++ more)) (parts_some bs) rest
    by_feed false = byte_on b (parts bs) (parts more) (parts (bs ++ more)) (parts_some bs) rest

-- the parts of bytes that go on
pub parts_go_on : (bs more : List ℕ) → parts (bs ++ more) ≡ ended_lines bs ++ glue (open_line bs) (parts more)
parts_go_on [] more = sym (glue_none more)
parts_go_on (b ∷ bs) more = one_on b bs more (parts_go_on bs more)

pub ended_cons : (p : List ℕ) (ps : List (List ℕ)) → HasPart ps → ended_parts (p ∷ ps) ≡ p ∷ ended_parts ps
ended_cons p [] some = absurd some
ended_cons p (q ∷ ps) some = refl

pub last_cons : (p : List ℕ) (ps : List (List ℕ)) → HasPart ps → last_part (p ∷ ps) ≡ last_part ps
last_cons p [] some = absurd some
last_cons p (q ∷ ps) some = refl

some_more : (xs ys : List (List ℕ)) → HasPart ys → HasPart (xs ++ ys)
some_more [] ys some = some
some_more (x ∷ xs) ys some = tt

ended_append : (xs ys : List (List ℕ)) → HasPart ys → ended_parts (xs ++ ys) ≡ xs ++ ended_parts ys
ended_append [] ys some = refl
ended_append (x ∷ xs) ys some = ended_cons x (xs ++ ys) (some_more xs ys some) ∙ ap (λ l. x ∷ l) (ended_append xs ys some)

last_append : (xs ys : List (List ℕ)) → HasPart ys → last_part (xs ++ ys) ≡ last_part ys
last_append [] ys some = refl
last_append (x ∷ xs) ys some = last_cons x (xs ++ ys) (some_more xs ys some) ∙ last_append xs ys some

pub ended_go_on : (bs more : List ℕ) → ended_lines (bs ++ more) ≡ ended_lines bs ++ ended_parts (glue (open_line bs) (parts more))
ended_go_on bs more = ap ended_parts (parts_go_on bs more) ∙ ended_append (ended_lines bs) (glue (open_line bs) (parts more)) (glue_some (open_line bs)
    (parts more))

pub open_go_on : (bs more : List ℕ) → open_line (bs ++ more) ≡ last_part (glue (open_line bs) (parts more))
open_go_on bs more = ap last_part (parts_go_on bs more) ∙ last_append (ended_lines bs) (glue (open_line bs) (parts more)) (glue_some (open_line bs)
    (parts more))

counted_two : (p q : List ℕ) (ps : List (List ℕ)) → counted_parts (p ∷ q ∷ ps) ≡ p ∷ counted_parts (q ∷ ps)
counted_two [] q ps = refl
counted_two (b ∷ p) q ps = refl

-- a last part that is not empty counts
counted_last : (xs : List (List ℕ)) (b : ℕ) (bytes : List ℕ) → counted_parts (xs ++ (b ∷ bytes) ∷ []) ≡ xs ++ (b ∷ bytes) ∷ []
counted_last [] b bytes = refl
counted_last (x ∷ []) b bytes = counted_two x (b ∷ bytes) [] ∙ ap (λ l. x ∷ l) (counted_last [] b bytes)
counted_last (x ∷ y ∷ xs) b bytes = counted_two x y (xs ++ (b ∷ bytes) ∷ []) ∙ ap (λ l. x ∷ l) (counted_last (y ∷ xs) b bytes)

counted_empty : (xs : List (List ℕ)) → counted_parts (xs ++ [] ∷ []) ≡ xs
counted_empty [] = refl
counted_empty (x ∷ []) = counted_two x [] [] ∙ ap (λ l. x ∷ l) (counted_empty [])
counted_empty (x ∷ y ∷ xs) = counted_two x y (xs ++ [] ∷ []) ∙ ap (λ l. x ∷ l) (counted_empty (y ∷ xs))

pub lines_some : (bs : List ℕ) (b : ℕ) (rest : List ℕ) → open_line bs ≡ b ∷ rest → lines bs ≡ ended_lines bs ++ (b ∷ rest) ∷ []
lines_some bs b rest is = ap counted_parts (parts_end bs ∙ ap (λ l. ended_lines bs ++ l ∷ []) is) ∙ counted_last (ended_lines bs) b rest

pub lines_none : (bs : List ℕ) → open_line bs ≡ [] → lines bs ≡ ended_lines bs
lines_none bs is = ap counted_parts (parts_end bs ∙ ap (λ l. ended_lines bs ++ l ∷ []) is) ∙ counted_empty (ended_lines bs)

-- bytes that go on within a line
pub ended_same : (bs more : List ℕ) → IsInLine more → ended_lines (bs ++ more) ≡ ended_lines bs
ended_same bs more is = ended_go_on bs more ∙ ap (λ ps. ended_lines bs ++ ended_parts (glue (open_line bs) ps)) is ∙ append-nil (ended_lines bs)

pub open_more : (bs more : List ℕ) → IsInLine more → open_line (bs ++ more) ≡ open_line bs ++ more
open_more bs more is = open_go_on bs more ∙ ap (λ ps. last_part (glue (open_line bs) ps)) is

-- a line feed
pub ended_feed : (bs : List ℕ) → ended_lines (bs ++ 10 ∷ []) ≡ ended_lines bs ++ open_line bs ∷ []
ended_feed bs = ended_go_on bs (10 ∷ []) ∙ ap (λ l. ended_lines bs ++ l ∷ []) (append-nil (open_line bs))

pub open_feed : (bs : List ℕ) → open_line (bs ++ 10 ∷ []) ≡ []
open_feed bs = open_go_on bs (10 ∷ [])

pub in_line_begins : (xs : List ℕ) (i : ℕ) → IsInLine (slice_range xs i i)
in_line_begins xs i = rw (range_none xs i) refl

-- one more byte that is no line feed
pub in_line_goes_on : (xs : List ℕ) (i j : ℕ) → i ≤ j → j < length xs → slice_index xs j ≢ 10 → IsInLine (slice_range xs i j)
    → IsInLine (slice_range xs i (j + 1))
in_line_goes_on xs i j le lt dark is = rw (range_more xs i j le lt) (in_line_push (slice_range xs i j) (slice_index xs j) dark is)
  where
    one : (b : ℕ) → b ≢ 10 → parts (b ∷ []) ≡ (b ∷ []) ∷ []
    one b h = rw (other b h) refl
      where
        other : (b : ℕ) → b ≢ 10 → (b == 10) ≡ false
        other b h = grind (arith, nat_tests)

    in_line_push : (ys : List ℕ) (b : ℕ) → b ≢ 10 → IsInLine ys → IsInLine (ys ++ b ∷ [])
    in_line_push ys b h is = parts_go_on ys (b ∷ []) ∙ ap (λ ps. ended_parts ps ++ glue (last_part ps) (parts (b ∷ []))) is ∙ ap (glue ys) (one b h)
