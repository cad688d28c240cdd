-- What stands at the front of any bytes.
use Rattle.std.proofs.Common.{◌≡◌, ℕ, zero, suc, ◌+◌, ◌<◌, ◌≤◌, ◌==◌, Bool, true, false, cond, nat_le, is_some, List, [], ◌∷◌, length, take, codes, take_while, arith, refl, sym, ap, ◌∙◌, subst, ◌||◌, Option, Some, None, length-take-le}
use Rattle.std.specs.Option.{option_map_or}
use Rattle.std.specs.List.{list_all}
use Rattle.use_text.specs.declared.code.Family.TheVariants.{L}
use Rattle.use_text.specs.declared.token.TokenKind.TheVariants.{Int, Str, AtPre}
use Rattle.use_text.specs.declared.piece.Piece.{Piece}
use Rattle.use_text.specs.declared.piece.Piece.TheVariants.{White, Token, Bad}
use Rattle.use_text.specs.Codes.{code_of}
use Rattle.use_text.specs.Pieces.{is_white, is_letter, is_digit, is_name_byte, same_text, string_end, string_piece, word_kind, word_piece, number_of_digits, number_piece, at_piece, mark_piece, piece_of}
use Rattle.use_text.specs.Lexemes.{is_string, is_lexeme, begins_comment, lexeme_piece}
use Rattle.use_text.proofs.LexemeLemmas.{by_bool, not_true, IsSized, Front, lexeme, nothing, longest_by, none_by, run_length, run_taken, run_longest, string_exact, string_found}
use Rattle.use_text.proofs.MarkLemmas.{front_mark}

when_true : {A : Type 0} (t : Bool) (x y : A) → t ≡ true → cond t x y ≡ x
when_true true x y h = refl
when_true false x y h = absurd (differ h)
  where
    differ : false ≡ true → ⊥
    differ h = cc

when_false : {A : Type 0} (t : Bool) (x y : A) → t ≡ false → cond t x y ≡ y
when_false true x y h = absurd (differ h)
  where
    differ : true ≡ false → ⊥
    differ h = cc
when_false false x y h = refl

sized_by : (t : Bool) (x y : Piece) (n : ℕ) → IsSized n x → IsSized n y → IsSized n (cond t x y)
sized_by true x y n h k = h
sized_by false x y n h k = k

word_sized : (word : List ℕ) → IsSized (length word) (word_piece word)
word_sized word = sized_by (nat_le (length word) 64) (Token (word_kind word) (length word)) (Bad (code_of L 5)) (length word) refl tt

number_sized : (digits : List ℕ) → IsSized (length digits) (number_piece digits)
number_sized digits = sized_by (is_some (number_of_digits digits)) (Token Int (length digits)) (Bad (code_of L 3)) (length digits) refl tt

at_sized : (word : List ℕ) → IsSized (suc (length word)) (at_piece word)
at_sized word = sized_by (same_text word (codes "pre")) (Token AtPre (length word + 1)) (Bad (code_of L 2)) (suc (length word)) (omega arith) tt

-- white space, a word or a number
front_run : (p : ℕ → Bool) (b : ℕ) (rest : List ℕ) (f : List ℕ → Piece) → p b ≡ true → ((xs : List ℕ) → is_lexeme (b ∷ xs) ≡ list_all p xs) → ((xs : List ℕ)
    → lexeme_piece (b ∷ xs) ≡ f (b ∷ xs)) → ((l : List ℕ) → IsSized (length l) (f l)) → Front (b ∷ rest) (f (take_while p (b ∷ rest)))
front_run p b rest f h test piece sized =
    lexeme (suc (length (take_while p rest))) (run_longest p b rest test) (ap f (run_length p b rest h) ∙ ap (λ l. f (b ∷ l)) (sym (run_taken p rest))
    ∙ sym (piece (take (length (take_while p rest)) rest))) (let e : length (take_while p (b
    ∷ rest)) ≡ suc (length (take_while p rest)) = ap length (run_length p b rest h) in subst (λ (n : ℕ). IsSized n (f (take_while p (b
    ∷ rest)))) e (sized (take_while p (b ∷ rest))))

-- `@` and a word
front_at : (b : ℕ) (rest : List ℕ) → ((xs : List ℕ) → is_lexeme (b ∷ xs) ≡ list_all is_name_byte xs) → ((xs : List ℕ) → lexeme_piece (b ∷ xs) ≡ at_piece xs)
    → Front (b ∷ rest) (at_piece (take_while is_name_byte rest))
front_at b rest test piece =
    lexeme (suc (length (take_while is_name_byte rest))) (run_longest is_name_byte b rest test) (ap at_piece (sym (run_taken is_name_byte rest))
    ∙ sym (piece (take (length (take_while is_name_byte rest)) rest))) (at_sized (take_while is_name_byte rest))

-- a string
front_string : (b : ℕ) (rest : List ℕ) → ((xs : List ℕ) → is_lexeme (b ∷ xs) ≡ is_string false xs) → ((xs : List ℕ) → lexeme_piece (b
    ∷ xs) ≡ Token Str (length (b ∷ xs))) → (b == 39) ≡ true → Front (b ∷ rest) (string_piece rest)
front_string b rest test piece h = by_end (string_end 1 false rest) refl
  where
    none_some : (n : ℕ) → None ≡ Some n → ⊥
    none_some n h = cc

    same_end : (n m : ℕ) → Some n ≡ Some m → n ≡ m
    same_end n m h = cc

    open_code : (x y : Bool) → x ≡ true → cond (x || y) (code_of L 4) (code_of L 2) ≡ code_of L 4
    open_code true y h = refl
    open_code false y h = cc

    by_end : (o : Option ℕ) → string_end 1 false rest ≡ o → Front (b ∷ rest) (option_map_or (λ n. Token Str n) o (Bad (code_of L 4)))
    by_end None e =
        nothing (none_by b rest (is_string false) test (λ j le. not_true (is_string false (take j rest)) (λ p. none_some (1 + j) (sym e
        ∙ string_exact 1 false rest j le p))))
        (ap Bad (sym (open_code (b == 39) (begins_comment (b ∷ rest)) h)))
    by_end (Some n) e =
        let at = string_found 1 false rest n e in
        let long : n ≡ suc at.k = at.is ∙ omega arith in
        let size : length (b ∷ take at.k rest) ≡ suc at.k = ap suc (length-take-le at.k rest at.within) in
        lexeme (suc at.k) (longest_by b rest (is_string false) test at.k at.within at.passes (later at.k n e at.is)) (ap (Token Str) (long ∙ sym size)
        ∙ sym (piece (take at.k rest))) long
      where
        later : (k n : ℕ) → string_end 1 false rest ≡ Some n → n ≡ 1 + k → (j : ℕ) → k < j → j ≤ length rest → is_string false (take j rest) ≡ false
        later k n e is j lt le = not_true (is_string false (take j rest)) (λ p. absurd (omega (
          arith,
          same_end n (1 + j) (sym e
              ∙ string_exact 1 false rest j le p),
          is,
          lt,
        )))

pub front : (bytes : List ℕ) → Front bytes (piece_of bytes)
front [] = nothing none refl
  where
    none : (m : ℕ) → m ≤ length {A = ℕ} [] → is_lexeme (take m []) ≡ false
    none zero le = refl
    none (suc m) le = refl
front (b ∷ rest) =
    by_bool (is_white b) (λ white. front_white white)
    (λ white. by_bool (is_letter b) (λ letter. front_letter white letter)
    (λ letter. by_bool (is_digit b) (λ digit. front_digit white letter digit)
    (λ digit. by_bool (b == 39) (λ quote. front_quote white letter digit quote)
    (λ quote. by_bool (b == 64) (λ at. front_sign white letter digit quote at)
    (λ at. front_other white letter digit quote at)))))
  where
    at_piece_of : (piece : Piece) → piece_of (b ∷ rest) ≡ piece → Front (b ∷ rest) piece → Front (b ∷ rest) (piece_of (b ∷ rest))
    at_piece_of piece e f = let P : Piece → Type 0 = λ p. Front (b ∷ rest) p in subst P (sym e) f

    name_byte : is_letter b ≡ true → is_name_byte b ≡ true
    name_byte letter = rw letter refl

    front_white : is_white b ≡ true → Front (b ∷ rest) (piece_of (b ∷ rest))
    front_white white = at_piece_of (White (length (take_while is_white (b ∷ rest)))) (when_true _ _ _ white) (front_run is_white b rest (λ l. White
        (length l)) white (λ xs. when_true _ _ _ white) (λ xs. when_true _ _ _ white) (λ l. refl))

    front_letter : is_white b ≡ false → is_letter b ≡ true → Front (b ∷ rest) (piece_of (b ∷ rest))
    front_letter white letter = at_piece_of (word_piece (take_while is_name_byte (b ∷ rest))) (when_false _ _ _ white
        ∙ when_true _ _ _ letter) (front_run is_name_byte b rest word_piece (name_byte letter) (λ xs. when_false _ _ _ white
        ∙ when_true _ _ _ letter) (λ xs. when_false _ _ _ white ∙ when_true _ _ _ letter) word_sized)

    front_digit : is_white b ≡ false → is_letter b ≡ false → is_digit b ≡ true → Front (b ∷ rest) (piece_of (b ∷ rest))
    front_digit white letter digit = at_piece_of (number_piece (take_while is_digit (b ∷ rest))) (when_false _ _ _ white ∙ when_false _ _ _ letter
        ∙ when_true _ _ _ digit) (front_run is_digit b rest number_piece digit (λ xs. when_false _ _ _ white ∙ when_false _ _ _ letter
        ∙ when_true _ _ _ digit) (λ xs. when_false _ _ _ white ∙ when_false _ _ _ letter ∙ when_true _ _ _ digit) number_sized)

    front_quote : is_white b ≡ false → is_letter b ≡ false → is_digit b ≡ false → (b == 39) ≡ true → Front (b ∷ rest) (piece_of (b ∷ rest))
    front_quote white letter digit quote = at_piece_of (string_piece rest) (when_false _ _ _ white ∙ when_false _ _ _ letter ∙ when_false _ _ _ digit
        ∙ when_true _ _ _ quote) (front_string b rest (λ xs. when_false _ _ _ white ∙ when_false _ _ _ letter ∙ when_false _ _ _ digit
        ∙ when_true _ _ _ quote) (λ xs. when_false _ _ _ white ∙ when_false _ _ _ letter ∙ when_false _ _ _ digit ∙ when_true _ _ _ quote) quote)

    front_sign : is_white b ≡ false → is_letter b ≡ false → is_digit b ≡ false → (b == 39) ≡ false → (b == 64) ≡ true → Front (b ∷ rest) (piece_of (b ∷ rest))
    front_sign white letter digit quote at = at_piece_of (at_piece (take_while is_name_byte rest)) (when_false _ _ _ white ∙ when_false _ _ _ letter
        ∙ when_false _ _ _ digit ∙ when_false _ _ _ quote ∙ when_true _ _ _ at) (front_at b rest (λ xs. when_false _ _ _ white ∙ when_false _ _ _ letter
        ∙ when_false _ _ _ digit ∙ when_false _ _ _ quote ∙ when_true _ _ _ at) (λ xs. when_false _ _ _ white ∙ when_false _ _ _ letter ∙ when_false _ _ _ digit
        ∙ when_false _ _ _ quote ∙ when_true _ _ _ at))

    front_other : is_white b ≡ false → is_letter b ≡ false → is_digit b ≡ false → (b == 39) ≡ false → (b == 64) ≡ false → Front (b ∷ rest) (piece_of (b ∷ rest))
    front_other white letter digit quote at = at_piece_of (mark_piece (b ∷ rest)) (when_false _ _ _ white ∙ when_false _ _ _ letter ∙ when_false _ _ _ digit
        ∙ when_false _ _ _ quote ∙ when_false _ _ _ at)
        (front_mark b rest (record {
          test = λ xs. when_false _ _ _ white ∙ when_false _ _ _ letter ∙ when_false _ _ _ digit ∙ when_false _ _ _ quote
              ∙ when_false _ _ _ at;
          piece = λ xs. when_false _ _ _ white ∙ when_false _ _ _ letter ∙ when_false _ _ _ digit ∙ when_false _ _ _ quote
              ∙ when_false _ _ _ at;
          quote = quote;
        }))
