-- The longest lexeme at the front of bytes.
use Rattle.std.proofs.Common.{◌≡◌, ℕ, zero, suc, ◌+◌, ◌<◌, ◌≤◌, ◌==◌, Bool, true, false, not, cond, List, [], ◌∷◌, length, take, take_while, arith, refl, ap, ◌∙◌, ◌&&◌, Option, Some, None}
use Rattle.std.specs.List.{list_all}
use Rattle.std.proofs.lemmas.List.Sums.{take_while-cons}
use Rattle.use_text.specs.declared.piece.Piece.{Piece}
use Rattle.use_text.specs.declared.piece.Piece.TheVariants.{White, Token, Bad}
use Rattle.use_text.specs.Pieces.{string_end, comment_end}
use Rattle.use_text.specs.Lexemes.{is_nothing, is_string, is_comment, is_lexeme, lexeme_piece, broken_code, IsLongest}

-- a test by cases, where each case knows what the test told
pub by_bool : {X : Type 0} (t : Bool) → (t ≡ true → X) → (t ≡ false → X) → X
by_bool true f g = f refl
by_bool false f g = g refl

pub not_true : (t : Bool) → (t ≡ true → ⊥) → t ≡ false
not_true true f = absurd (f refl)
not_true false f = refl

-- a piece of so many bytes
abbrev pub IsSized : ℕ → Piece → Type 0
IsSized n (White k) = k ≡ n
IsSized n (Token kind k) = k ≡ n
IsSized n (Bad code) = Unit {0}

-- what stands at the front: a longest lexeme, which is the piece; or none, and the piece is refused
pub data Front (bytes : List ℕ) (piece : Piece) : Type 0 where
  lexeme : (n : ℕ) → IsLongest bytes n → piece ≡ lexeme_piece (take n bytes) → IsSized n piece → Front bytes piece
  nothing : ((m : ℕ) → m ≤ length bytes → is_lexeme (take m bytes) ≡ false) → piece ≡ Bad (broken_code bytes) → Front bytes piece

-- a byte, and then as many as a test of what follows it allows
pub longest_by : (b : ℕ) (rest : List ℕ) (T : List ℕ → Bool) → ((xs : List ℕ) → is_lexeme (b ∷ xs) ≡ T xs) → (k : ℕ) → k ≤ length rest → T (take k rest) ≡ true
    → ((j : ℕ) → k < j → j ≤ length rest → T (take j rest) ≡ false) → IsLongest (b ∷ rest) (suc k)
longest_by b rest T e k within h f = record { within = omega arith; is = e (take k rest) ∙ h; longest = later }
  where
    later : (m : ℕ) → suc k < m → m ≤ length (b ∷ rest) → is_lexeme (take m (b ∷ rest)) ≡ false
    later zero lt le = absurd (omega arith)
    later (suc j) lt le = e (take j rest) ∙ f j (omega arith) (omega arith)

pub none_by : (b : ℕ) (rest : List ℕ) (T : List ℕ → Bool) → ((xs : List ℕ) → is_lexeme (b ∷ xs) ≡ T xs) → ((j : ℕ) → j ≤ length rest → T (take j rest) ≡ false)
    → (m : ℕ) → m ≤ length (b ∷ rest) → is_lexeme (take m (b ∷ rest)) ≡ false
none_by b rest T e f zero le = refl
none_by b rest T e f (suc j) le = e (take j rest) ∙ f j (omega arith)

-- runs of bytes that pass a test
pub run_length : (p : ℕ → Bool) (b : ℕ) (rest : List ℕ) → p b ≡ true → take_while p (b ∷ rest) ≡ b ∷ take_while p rest
run_length p b rest h = rw (take_while-cons p b rest, h) refl

pub run_stops : (p : ℕ → Bool) (b : ℕ) (rest : List ℕ) → p b ≡ false → take_while p (b ∷ rest) ≡ []
run_stops p b rest h = rw (take_while-cons p b rest, h) refl

pub run_within : (p : ℕ → Bool) (rest : List ℕ) → length (take_while p rest) ≤ length rest
run_within p [] = omega arith
run_within p (b ∷ rest) = by_bool (p b) (λ h. rw (run_length p b rest h) (omega (arith, run_within p rest))) (λ h. rw (run_stops p b rest h) (omega arith))

pub run_all : (p : ℕ → Bool) (rest : List ℕ) → list_all p (take_while p rest) ≡ true
run_all p [] = refl
run_all p (b ∷ rest) = by_bool (p b) (λ h. rw (run_length p b rest h, h) (run_all p rest)) (λ h. rw (run_stops p b rest h) refl)

pub run_taken : (p : ℕ → Bool) (rest : List ℕ) → take (length (take_while p rest)) rest ≡ take_while p rest
run_taken p [] = refl
run_taken p (b ∷ rest) = by_bool (p b) (λ h. rw (run_length p b rest h) (ap (λ l. b ∷ l) (run_taken p rest))) (λ h. rw (run_stops p b rest h) refl)

pub run_past : (p : ℕ → Bool) (rest : List ℕ) (j : ℕ) → length (take_while p rest) < j → j ≤ length rest → list_all p (take j rest) ≡ false
run_past p [] j lt le = absurd (omega arith)
run_past p (b ∷ rest) zero lt le = absurd (omega arith)
run_past p (b ∷ rest) (suc j) lt le =
    by_bool (p b) (λ h. let lt' : suc (length (take_while p rest)) < suc j = rw (run_length p b rest h) at lt
    in rw h (run_past p rest j (omega arith) (omega arith))) (λ h. rw h refl)

pub run_longest : (p : ℕ → Bool) (b : ℕ) (rest : List ℕ) → ((xs : List ℕ) → is_lexeme (b ∷ xs) ≡ list_all p xs) → IsLongest (b
    ∷ rest) (suc (length (take_while p rest)))
run_longest p b rest e = longest_by b rest (list_all p) e (length (take_while p rest)) (run_within p rest) (rw (run_taken p rest) (run_all p rest))
    (run_past p rest)

-- where the end of a string or a comment is, only that front is one
exact_at : (feed last : Bool) (n k : ℕ) (rest : List ℕ) (inner : Bool) (later : Option ℕ) → k ≤ length rest → (inner ≡ true → later ≡ Some (n + suc k))
    → cond feed false (cond last (is_nothing (take k rest)) inner) ≡ true → cond feed None (cond last (Some (n + 1)) later) ≡ Some (n + suc k)
exact_at true last n k rest inner later le f h = cc
exact_at false true n zero rest inner later le f h = ap Some (omega arith)
exact_at false true n (suc k) [] inner later le f h = absurd (omega arith)
exact_at false true n (suc k) (x ∷ rest) inner later le f h = cc
exact_at false false n k rest inner later le f h = f h

pub string_exact : (n : ℕ) (taken : Bool) (bs : List ℕ) (k : ℕ) → k ≤ length bs → is_string taken (take k bs) ≡ true → string_end n taken bs ≡ Some (n + k)
string_exact n taken [] zero le h = cc
string_exact n taken [] (suc k) le h = cc
string_exact n taken (b ∷ rest) zero le h = cc
string_exact n taken (b ∷ rest) (suc k) le h =
    exact_at (b == 10) ((b == 39) && not taken) n k rest (is_string ((b == 92) && not taken) (take k rest)) (string_end (n + 1) ((b == 92)
    && not taken) rest) (omega arith)
    (λ g. string_exact (n + 1) ((b == 92) && not taken) rest k (omega arith) g ∙ ap Some (omega arith)) h

pub comment_exact : (n : ℕ) (star : Bool) (bs : List ℕ) (k : ℕ) → k ≤ length bs → is_comment star (take k bs) ≡ true → comment_end n star bs ≡ Some (n + k)
comment_exact n star [] zero le h = cc
comment_exact n star [] (suc k) le h = cc
comment_exact n star (b ∷ rest) zero le h = cc
comment_exact n star (b ∷ rest) (suc k) le h =
    exact_at false ((b == 47) && star) n k rest (is_comment (b == 42) (take k rest)) (comment_end (n + 1) (b == 42) rest) (omega arith)
    (λ g. comment_exact (n + 1) (b == 42) rest k (omega arith) g ∙ ap Some (omega arith)) h

-- an end that was found is that of a front
pub record EndsAt (T : List ℕ → Bool) (n : ℕ) (bs : List ℕ) (e : ℕ) : Type 0 where
  pub k : ℕ
  pub within : k ≤ length bs
  pub is : e ≡ n + k
  pub passes : T (take k bs) ≡ true

found_at : (feed last : Bool) (n e : ℕ) (rest : List ℕ) (inner : List ℕ → Bool) (later : Option ℕ) → (later ≡ Some e → EndsAt inner (n + 1) rest e)
    → cond feed None (cond last (Some (n + 1)) later) ≡ Some e → (k : ℕ) × (k ≤ length rest) × (e ≡ n + suc k) × (cond feed false (cond last (is_nothing
    (take k rest)) (inner (take k rest))) ≡ true)
found_at true last n e rest inner later f h = absurd (none_some e h)
  where
    none_some : (e : ℕ) → None ≡ Some e → ⊥
    none_some e h = cc
found_at false true n e rest inner later f h = (0, omega arith, some_is (n + 1) e h, refl)
  where
    some_is : (a b : ℕ) → Some a ≡ Some b → b ≡ a
    some_is a b h = cc
found_at false false n e rest inner later f h =
    let at = f h in
    (at.k, at.within, at.is ∙ omega arith, at.passes)

pub string_found : (n : ℕ) (taken : Bool) (bs : List ℕ) (e : ℕ) → string_end n taken bs ≡ Some e → EndsAt (is_string taken) n bs e
string_found n taken [] e h = absurd (none_some e h)
  where
    none_some : (e : ℕ) → None ≡ Some e → ⊥
    none_some e h = cc
string_found n taken (b ∷ rest) e h =
    let next = (b == 92) && not taken in
    let at = found_at (b == 10) ((b == 39) && not taken) n e rest (is_string next) (string_end (n + 1) next rest) (string_found (n + 1) next rest e) h in
    record { k = suc at.0; within = omega (arith, at.1); is = at.2; passes = at.3 }

pub comment_found : (n : ℕ) (star : Bool) (bs : List ℕ) (e : ℕ) → comment_end n star bs ≡ Some e → EndsAt (is_comment star) n bs e
comment_found n star [] e h = absurd (none_some e h)
  where
    none_some : (e : ℕ) → None ≡ Some e → ⊥
    none_some e h = cc
comment_found n star (b ∷ rest) e h =
    let at = found_at false ((b == 47) && star) n e rest (is_comment (b == 42)) (comment_end (n + 1) (b == 42) rest) (comment_found (n + 1)
    (b == 42) rest e) h in
    record { k = suc at.0; within = omega (arith, at.1); is = at.2; passes = at.3 }
