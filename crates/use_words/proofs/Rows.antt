-- What is read of matches, as it is read of their rows.
use Rattle.std.proofs.Common.{◌≡◌, ◌≢◌, codes, refl, sym, ℕ, Bool, true, false, List, [], ◌∷◌, Option, Some, None, slice_get, option_map, option_and_then, map, unwrap_or}
use Rattle.std.specs.Prelude.{find}
use Rattle.std.specs.Borrow.{Bor}
use Rattle.std.specs.Option.{option_map_or}
use Rattle.std.specs.Str.{bytes_eq}
use Rattle.std.specs.Str.Parse.{ParsesBool}
use Rattle.std.proofs.lemmas.Slice.Eq.{bytes_eq-Decides}
use Rattle.clap.specs.Facts.{Entry}
use Rattle.clap.specs.Matches.{ReadsOne, first_value, one_text}
use Rattle.clap.specs.Values.{read_as}
use Rattle.clap.specs.Walk.{Text, first_of, one_of, row_of, rows_of}
use Rattle.clap.specs.declared.parser.matches.Found.{Found}
use Rattle.clap.specs.declared.parser.matches.MatchedArg.{MatchedArg}
use Rattle.clap.specs.declared.builder.value_parser.Reading.{Reading}
use Rattle.use_words.specs.CommandLine.{is_true}

abbrev first_in : List Entry → Text → Option Text
first_in es id = option_and_then (λ (a : MatchedArg). option_map (λ (s : Bor Text). s.now) (slice_get a.vals.items 0))
    (option_map (λ (e : Entry). e.1) (find (λ (e : Entry). bytes_eq e.0.now id) es))

abbrev text_in : List Entry → Text → Option Text
text_in es id = option_and_then (λ (a : MatchedArg). option_map (λ (s : Bor Text). read_as a.reading s.now) (slice_get a.vals.items 0))
    (option_map (λ (e : Entry). e.1) (find (λ (e : Entry). bytes_eq e.0.now id) es))

first_text : (vs : List (Bor Text)) → option_map (λ (s : Bor Text). s.now) (slice_get vs 0) ≡ slice_get (map (λ (s : Bor Text). s.now) vs) 0
first_text [] = refl
first_text (v ∷ vs) = refl

read_text : (how : Reading) (vs : List (Bor Text))
    → option_map (λ (s : Bor Text). read_as how s.now) (slice_get vs 0) ≡ option_map (read_as how) (slice_get (map (λ (s : Bor Text). s.now) vs) 0)
read_text how [] = refl
read_text how (v ∷ vs) = refl

first_in_rows : (es : List Entry) (id : Text) → first_in es id ≡ first_of id (map row_of es)
first_in_rows [] id = refl
first_in_rows (e ∷ es) id = by_head (bytes_eq e.0.now id) refl (first_in_rows es id)
  where
    by_head : (b : Bool) → bytes_eq e.0.now id ≡ b → first_in es id ≡ first_of id (map row_of es) → first_in (e ∷ es) id ≡ first_of id (map row_of (e ∷ es))
    by_head true h same = rw h (first_text e.1.vals.items)
    by_head false h same = rw h same

text_in_rows : (es : List Entry) (id : Text) → text_in es id ≡ one_of id (map row_of es)
text_in_rows [] id = refl
text_in_rows (e ∷ es) id = by_head (bytes_eq e.0.now id) refl (text_in_rows es id)
  where
    by_head : (b : Bool) → bytes_eq e.0.now id ≡ b → text_in es id ≡ one_of id (map row_of es) → text_in (e ∷ es) id ≡ one_of id (map row_of (e ∷ es))
    by_head true h same = rw h (read_text e.1.reading e.1.vals.items)
    by_head false h same = rw h same

pub first_value_is : (f : Found) (id : Text) → first_value f id ≡ first_of id (rows_of f)
first_value_is f id = first_in_rows f.entries.items id

pub one_text_is : (f : Found) (id : Text) → one_text f id ≡ one_of id (rows_of f)
one_text_is f id = text_in_rows f.entries.items id

unequal : (xs ys : List ℕ) → xs ≢ ys → bytes_eq xs ys ≡ false
unequal xs ys ne = by_answer (bytes_eq xs ys) refl
  where
    by_answer : (b : Bool) → bytes_eq xs ys ≡ b → bytes_eq xs ys ≡ false
    by_answer true h = absurd (ne ((bytes_eq-Decides xs ys).0 h))
    by_answer false h = h

-- a text that is read as a truth value, false where it is none
read_flag : (E : Type 0) (t : Text) (r : Option Bool) → ReadsOne {T = Bool} {E = E} ParsesBool t r → unwrap_or r false ≡ is_true t
read_flag E t None h = sym (unequal t (codes "true") h.1.0)
read_flag E t (Some true) h = rw h refl
read_flag E t (Some false) h = rw h refl

pub flag_is : (E : Type 0) (o : Option Text) (r : Option Bool) → (o ≡ None → r ≡ None) → ((t : Text) → o ≡ Some t → ReadsOne {T = Bool} {E = E} ParsesBool t r)
    → unwrap_or r false ≡ option_map_or is_true o false
flag_is E None r none some = rw (none refl) refl
flag_is E (Some t) r none some = read_flag E t r (some t refl)
