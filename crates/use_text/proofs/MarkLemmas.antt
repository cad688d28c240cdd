-- The longest comment or symbol at the front of bytes.
use Rattle.std.proofs.Common.{◌≡◌, ℕ, zero, suc, ◌+◌, ◌<◌, ◌≤◌, ◌==◌, Bool, true, false, not, cond, nat_eq, List, [], ◌∷◌, length, take, drop, codes, take_while, arith, refl, sym, ap, ◌∙◌, subst, ◌||◌, ◌&&◌, Option, Some, None, inl, inr, ◌⊎◌, length-take-le, length-take}
use Rattle.std.specs.Option.{option_map_or}
use Rattle.std.specs.List.{list_all}
use Rattle.std.specs.Cmp.Lexicographic.{bytes_decides}
use Rattle.std.proofs.lemmas.Bool.{eqb-true}
use Rattle.use_text.specs.declared.code.Family.TheVariants.{L}
use Rattle.use_text.specs.declared.token.TokenKind.{TokenKind}
use Rattle.use_text.specs.declared.piece.Piece.{Piece}
use Rattle.use_text.specs.declared.piece.Piece.TheVariants.{White, Token, Bad}
use Rattle.use_text.specs.declared.words.TheConstants.{SYMBOLS}
use Rattle.use_text.specs.Codes.{code_of}
use Rattle.use_text.specs.Pieces.{is_in_line, same_text, begins, comment_end, comment_piece, symbol_among, symbol_piece, mark_piece}
use Rattle.use_text.specs.Lexemes.{is_comment, is_among, is_symbol, begins_line_comment, begins_comment, is_mark, is_lexeme, mark_lexeme, lexeme_piece}
use Rattle.use_text.proofs.PieceLemmas.{begins_within, and_left, and_right, or_right}
use Rattle.use_text.proofs.LexemeLemmas.{by_bool, not_true, IsSized, Front, lexeme, nothing, run_length, run_taken, run_within, run_all, run_past, comment_exact, comment_found}

take_of_take : (n m : ℕ) (xs : List ℕ) → n ≤ m → take n (take m xs) ≡ take n xs
take_of_take zero m xs le = refl
take_of_take (suc n) zero xs le = absurd (omega arith)
take_of_take (suc n) (suc m) [] le = refl
take_of_take (suc n) (suc m) (x ∷ xs) le = ap (λ l. x ∷ l) (take_of_take n m xs (omega arith))

begins_of_take : (front bytes : List ℕ) (m : ℕ) → length front ≤ m → begins (take m bytes) front ≡ begins bytes front
begins_of_take front bytes m le = ap (λ l. same_text front l) (take_of_take (length front) m bytes le)

begins_before : (front bytes : List ℕ) (m : ℕ) → begins (take m bytes) front ≡ true → begins bytes front ≡ true
begins_before front bytes m h = sym (begins_of_take front bytes m (omega (arith, begins_within (take m bytes) front h, length-take m bytes))) ∙ h

begins_never : (front bytes : List ℕ) (m : ℕ) → begins bytes front ≡ false → begins (take m bytes) front ≡ false
begins_never front bytes m h = not_true (begins (take m bytes) front) (λ k. absurd (both (begins bytes front) (begins_before front bytes m k) h))
  where
    both : (t : Bool) → t ≡ true → t ≡ false → ⊥
    both t h k = cc

same_is : (xs ys : List ℕ) → same_text xs ys ≡ true → xs ≡ ys
same_is xs ys h = (bytes_decides xs ys).0 h

is_same : (xs ys : List ℕ) → xs ≡ ys → same_text xs ys ≡ true
is_same xs ys h = (bytes_decides xs ys).1 h

or_false : (x y : Bool) → x ≡ false → y ≡ false → x || y ≡ false
or_false true y h k = cc
or_false false y h k = k

or_left : (x y : Bool) → x ≡ true → x || y ≡ true
or_left true y h = refl
or_left false y h = cc

or_second : (x y : Bool) → y ≡ true → x || y ≡ true
or_second true y h = refl
or_second false y h = h

or_first_false : (x y : Bool) → x || y ≡ false → x ≡ false
or_first_false true y h = cc
or_first_false false y h = refl

or_cases : (x y : Bool) → x || y ≡ true → (x ≡ true) ⊎ (y ≡ true)
or_cases true y h = inl refl
or_cases false y h = inr h

not_is : (x : Bool) → not x ≡ true → x ≡ true → ⊥
not_is true h k = cc
not_is false h k = cc

-- no row behind begins with these bytes
abbrev none_begins : {A : Type 0} → List (A × TokenKind) → (A → List ℕ) → List ℕ → Bool
none_begins [] text front = true
none_begins (row ∷ rows) text front = not (begins (text row.0) front) && none_begins rows text front

-- a symbol that another begins with stands behind it
abbrev is_ordered : {A : Type 0} → List (A × TokenKind) → (A → List ℕ) → Bool
is_ordered [] text = true
is_ordered (row ∷ rows) text = none_begins rows text (text row.0) && is_ordered rows text

never_later : {A : Type 0} (rows : List (A × TokenKind)) (text : A → List ℕ) (front bytes : List ℕ) (m : ℕ) → none_begins rows text front ≡ true
    → begins (take m bytes) front ≡ true → is_among rows text (take m bytes) ≡ false
never_later [] text front bytes m h k = refl
never_later (row ∷ rows) text front bytes m h k =
    or_false (same_text (text row.0) (take m bytes)) (is_among rows text (take m bytes))
    (not_true (same_text (text row.0) (take m bytes)) (λ e. not_is (begins (text row.0) front) (and_left _ _ h) (ap (λ l. begins l front) (same_is (text row.0)
    (take m bytes) e) ∙ k)))
    (never_later rows text front bytes m (and_right _ _ h) k)

data SymbolFront {A : Type 0} (rows : List (A × TokenKind)) (text : A → List ℕ) (bytes : List ℕ) : Type 0 where
  found : (n : ℕ) → n ≤ length bytes → is_among rows text (take n bytes) ≡ true → ((m : ℕ) → n < m → m ≤ length bytes
      → is_among rows text (take m bytes) ≡ false) → symbol_among rows text bytes ≡ symbol_among rows text (take n bytes)
      → IsSized n (symbol_among rows text bytes) → SymbolFront rows text bytes
  missing : ((m : ℕ) → m ≤ length bytes → is_among rows text (take m bytes) ≡ false) → symbol_among rows text bytes ≡ Bad (code_of L 2)
      → SymbolFront rows text bytes

same_begins : (text bytes : List ℕ) (m : ℕ) → m ≤ length bytes → same_text text (take m bytes) ≡ true → begins bytes text ≡ true
same_begins text bytes m le h =
    let is : text ≡ take m bytes = same_is text (take m bytes) h in
    let long : length text ≡ m = ap length is ∙ length-take-le m bytes le in
    is_same text (take (length text) bytes) (is ∙ ap (λ n. take n bytes) (sym long))

first_row : {A : Type 0} (row : A × TokenKind) (rows : List (A × TokenKind)) (text : A → List ℕ) (bytes : List ℕ) → none_begins rows text (text row.0) ≡ true
    → begins bytes (text row.0) ≡ true → SymbolFront (row ∷ rows) text bytes
first_row row rows text bytes h k =
    let t = text row.0 in
    let n = length t in
    let within : n ≤ length bytes = begins_within bytes t k in
    let taken : t ≡ take n bytes = same_is t (take n bytes) k in
    let again : begins (take n bytes) t ≡ true = begins_of_take t bytes n (omega arith) ∙ k in
    let longer = λ (m : ℕ) (lt : n < m) (le : m ≤ length bytes). or_false (same_text t (take m bytes)) (is_among rows text (take m bytes))
    (not_true (same_text t (take m bytes)) (λ e. absurd (omega (arith, ap length (same_is t (take m bytes) e), length-take-le m bytes le, lt))))
    (never_later rows text t bytes m h (begins_of_take t bytes m (omega arith) ∙ k)) in
    found n within (or_left (same_text t (take n bytes)) (is_among rows text (take n bytes)) (is_same t (take n bytes) taken)) longer
    (ap (λ b. cond b (Token row.1 n) (symbol_among rows text bytes)) k ∙ sym (ap (λ b. cond b (Token row.1 n) (symbol_among rows text (take n bytes))) again))
    (sized_first (begins bytes t) row.1 n (symbol_among rows text bytes) k)
  where
    sized_first : (t : Bool) (kind : TokenKind) (n : ℕ) (other : Piece) → t ≡ true → IsSized n (cond t (Token kind n) other)
    sized_first true kind n other h = refl
    sized_first false kind n other h = absurd (differ h)
      where
        differ : false ≡ true → ⊥
        differ h = cc

later_row : {A : Type 0} (row : A × TokenKind) (rows : List (A × TokenKind)) (text : A → List ℕ) (bytes : List ℕ) → begins bytes (text row.0) ≡ false
    → SymbolFront rows text bytes → SymbolFront (row ∷ rows) text bytes
later_row row rows text bytes k (found n within is longer same sized) =
    let t = text row.0 in
    let other = λ (m : ℕ) (le : m ≤ length bytes). not_true (same_text t (take m bytes)) (λ e. differ (begins bytes t) (same_begins t bytes m le e) k) in
    found n within (or_second (same_text t (take n bytes)) (is_among rows text (take n bytes)) is)
    (λ m lt le. or_false (same_text t (take m bytes)) (is_among rows text (take m bytes)) (other m le) (longer m lt le))
    (ap (λ b. cond b (Token row.1 (length t)) (symbol_among rows text bytes)) k ∙ same ∙ sym (ap (λ b. cond b (Token row.1 (length t)) (symbol_among rows text
    (take n bytes))) (begins_never t bytes n k)))
    (sized_later (begins bytes t) (Token row.1 (length t)) n (symbol_among rows text bytes) k sized)
  where
    differ : (t : Bool) → t ≡ true → t ≡ false → ⊥
    differ t h k = cc

    sized_later : (t : Bool) (first : Piece) (n : ℕ) (other : Piece) → t ≡ false → IsSized n other → IsSized n (cond t first other)
    sized_later true first n other h s = absurd (differ true refl h)
    sized_later false first n other h s = s
later_row row rows text bytes k (missing none bad) =
    let t = text row.0 in
    missing (λ m le. or_false (same_text t (take m bytes)) (is_among rows text (take m bytes)) (not_true (same_text t (take m bytes)) (λ e. differ
    (begins bytes t) (same_begins t bytes m le e) k)) (none m le))
    (ap (λ b. cond b (Token row.1 (length t)) (symbol_among rows text bytes)) k ∙ bad)
  where
    differ : (t : Bool) → t ≡ true → t ≡ false → ⊥
    differ t h k = cc

symbol_front : {A : Type 0} (rows : List (A × TokenKind)) (text : A → List ℕ) (bytes : List ℕ) → is_ordered rows text ≡ true → SymbolFront rows text bytes
symbol_front [] text bytes h = missing (λ m le. refl) refl
symbol_front (row ∷ rows) text bytes h =
    by_bool (begins bytes (text row.0)) (first_row row rows text bytes (and_left _ _ h)) (λ k. later_row row rows text bytes k (symbol_front rows text bytes
    (and_right _ _ h)))

symbols_front : (bytes : List ℕ) → SymbolFront SYMBOLS (λ t. t.now) bytes
symbols_front bytes = symbol_front SYMBOLS (λ t. t.now) bytes refl

-- of bytes that begin no comment, no front does
no_line_comment : (bytes : List ℕ) (m : ℕ) → begins_line_comment bytes ≡ false → begins_line_comment (take m bytes) ≡ false
no_line_comment bytes m h = or_false _ _ (begins_never (codes "--") bytes m (or_first_false _ _ h)) (begins_never (codes "//") bytes m (or_right _ _ h))

no_comment : (bytes : List ℕ) (m : ℕ) → begins_comment bytes ≡ false → begins_comment (take m bytes) ≡ false
no_comment bytes m h = begins_never (codes "/*") bytes m h

mark_is_symbol : (bytes : List ℕ) → begins_line_comment bytes ≡ false → begins_comment bytes ≡ false → is_mark bytes ≡ is_symbol bytes
mark_is_symbol bytes h k = ap (λ t. cond t (list_all is_in_line bytes) (cond (begins_comment bytes) (is_comment false (drop 2 bytes)) (is_symbol bytes))) h
    ∙ ap (λ t. cond t (is_comment false (drop 2 bytes)) (is_symbol bytes)) k

mark_is_line : (bytes : List ℕ) → begins_line_comment bytes ≡ true → is_mark bytes ≡ list_all is_in_line bytes
mark_is_line bytes h = ap (λ t. cond t (list_all is_in_line bytes) (cond (begins_comment bytes) (is_comment false (drop 2 bytes)) (is_symbol bytes))) h

mark_is_comment : (bytes : List ℕ) → begins_line_comment bytes ≡ false → begins_comment bytes ≡ true → is_mark bytes ≡ is_comment false (drop 2 bytes)
mark_is_comment bytes h k = ap (λ t. cond t (list_all is_in_line bytes) (cond (begins_comment bytes) (is_comment false (drop 2 bytes)) (is_symbol bytes))) h
    ∙ ap (λ t. cond t (is_comment false (drop 2 bytes)) (is_symbol bytes)) k

lexeme_symbol : (bytes : List ℕ) → begins_line_comment bytes ≡ false → begins_comment bytes ≡ false → mark_lexeme bytes ≡ symbol_piece bytes
lexeme_symbol bytes h k = ap (λ t. cond t (White (length bytes)) (symbol_piece bytes)) (or_false _ _ h k)

lexeme_comment : (bytes : List ℕ) → begins_line_comment bytes || begins_comment bytes ≡ true → mark_lexeme bytes ≡ White (length bytes)
lexeme_comment bytes h = ap (λ t. cond t (White (length bytes)) (symbol_piece bytes)) h

-- a byte that begins a mark
pub record BeginsMark (b : ℕ) : Type 0 where
  pub test : (xs : List ℕ) → is_lexeme (b ∷ xs) ≡ is_mark (b ∷ xs)
  pub piece : (xs : List ℕ) → lexeme_piece (b ∷ xs) ≡ mark_lexeme (b ∷ xs)
  pub quote : (b == 39) ≡ false

no_code : (x y : Bool) → x ≡ false → y ≡ false → cond (x || y) (code_of L 4) (code_of L 2) ≡ code_of L 2
no_code true y h k = cc
no_code false true h k = cc
no_code false false h k = refl

open_code : (x y : Bool) → y ≡ true → cond (x || y) (code_of L 4) (code_of L 2) ≡ code_of L 4
open_code true y h = refl
open_code false true h = refl
open_code false false h = cc

-- a symbol
front_symbol : (b : ℕ) (rest : List ℕ) → BeginsMark b → begins_line_comment (b ∷ rest) ≡ false → begins_comment (b ∷ rest) ≡ false → Front (b
    ∷ rest) (symbol_piece (b ∷ rest))
unfolding is_symbol symbol_piece
front_symbol b rest mark h k = by_front (symbols_front (b ∷ rest))
  where
    test : (m : ℕ) → m ≤ length (b ∷ rest) → is_lexeme (take m (b ∷ rest)) ≡ is_among SYMBOLS (λ t. t.now) (take m (b ∷ rest))
    test zero le = refl
    test (suc m) le = mark.test (take m rest) ∙ mark_is_symbol (take (suc m) (b ∷ rest)) (no_line_comment (b ∷ rest) (suc m) h) (no_comment (b
        ∷ rest) (suc m) k)

    piece : (m : ℕ) → 0 < m → lexeme_piece (take m (b ∷ rest)) ≡ symbol_among SYMBOLS (λ t. t.now) (take m (b ∷ rest))
    piece zero lt = absurd (omega arith)
    piece (suc m) lt = mark.piece (take m rest) ∙ lexeme_symbol (take (suc m) (b ∷ rest)) (no_line_comment (b ∷ rest) (suc m) h) (no_comment (b
        ∷ rest) (suc m) k)

    some : (n : ℕ) → is_among SYMBOLS (λ t. t.now) (take n (b ∷ rest)) ≡ true → 0 < n
    some zero e = cc
    some (suc n) e = omega arith

    by_front : SymbolFront SYMBOLS (λ t. t.now) (b ∷ rest) → Front (b ∷ rest) (symbol_among SYMBOLS (λ t. t.now) (b ∷ rest))
    by_front (found n within is longer same sized) = lexeme n (record {
      within = within;
      is = test n within ∙ is;
      longest = λ m lt le. test m le
          ∙ longer m lt le;
    }) (same ∙ sym (piece n (some n is))) sized
    by_front (missing none bad) = nothing (λ m le. test m le ∙ none m le) (bad ∙ ap Bad (sym (no_code (b == 39) (begins_comment (b ∷ rest)) mark.quote k)))

-- the bytes that begin a comment
dash : (x b : ℕ) → nat_eq x b ≡ true → is_in_line x ≡ true → is_in_line b ≡ true
dash x b h k = rw (← eqb-true x b h) k

two_in_line : (b c : ℕ) (more : List ℕ) → begins_line_comment (b ∷ c ∷ more) ≡ true → (is_in_line b ≡ true) × (is_in_line c ≡ true)
two_in_line b c more h = by_mark (or_cases (begins (b ∷ c ∷ more) (codes "--")) (begins (b ∷ c ∷ more) (codes "//")) h)
  where
    by_mark : (begins (b ∷ c ∷ more) (codes "--") ≡ true) ⊎ (begins (b ∷ c ∷ more) (codes "//") ≡ true) → (is_in_line b ≡ true) × (is_in_line c ≡ true)
    by_mark (inl k) = (dash 45 b (and_left _ _ k) refl, dash 45 c (and_left _ _ (and_right (nat_eq 45 b) _ k)) refl)
    by_mark (inr k) = (dash 47 b (and_left _ _ k) refl, dash 47 c (and_left _ _ (and_right (nat_eq 47 b) _ k)) refl)

-- a comment to the end of its line
front_line : (b : ℕ) (rest : List ℕ) → BeginsMark b → begins_line_comment (b ∷ rest) ≡ true → Front (b ∷ rest) (White (length (take_while is_in_line (b
    ∷ rest))))
front_line b [] mark h = absurd (one (begins (b ∷ []) (codes "--")) (begins (b ∷ []) (codes "//")) (λ k. omega (
  arith,
  begins_within (b
      ∷ []) (codes "--") k,
)) (λ k. omega (arith, begins_within (b ∷ []) (codes "//") k)) h)
  where
    one : (x y : Bool) → (x ≡ true → ⊥) → (y ≡ true → ⊥) → x || y ≡ true → ⊥
    one true y f g h = f refl
    one false y f g h = g h
front_line b (c ∷ more) mark h =
    let both = two_in_line b c more h in
    let run = length (take_while is_in_line more) in
    let long : length (take_while is_in_line (b ∷ c ∷ more)) ≡ suc (suc run) = rw (
      run_length is_in_line b (c
          ∷ more) both.0,
      run_length is_in_line c more both.1,
    ) refl in
    let test = λ (xs : List ℕ). mark.test (c ∷ xs) ∙ mark_is_line (b ∷ c ∷ xs) h ∙ ap (λ t. t && list_all is_in_line (c ∷ xs)) both.0 ∙ ap (λ t. t
    && list_all is_in_line xs) both.1 in
    let is : is_lexeme (take (suc (suc run)) (b ∷ c ∷ more)) ≡ true = test (take run more) ∙ ap (list_all is_in_line) (run_taken is_in_line more)
    ∙ run_all is_in_line more in
    let within : suc (suc run) ≤ length (b ∷ c ∷ more) = omega (arith, run_within is_in_line more) in
    let piece : lexeme_piece (take (suc (suc run)) (b ∷ c ∷ more)) ≡ White (suc (suc run)) = mark.piece (c ∷ take run more) ∙ lexeme_comment (b ∷ c
    ∷ take run more) (or_left _ _ h) ∙ ap White (length-take-le (suc (suc run)) (b ∷ c ∷ more) within) in
    lexeme (suc (suc run)) (record { within = within; is = is; longest = later run test }) (ap White long ∙ sym piece) long
  where
    later : (run : ℕ) → ((xs : List ℕ) → is_lexeme (b ∷ c ∷ xs) ≡ list_all is_in_line xs) → (m : ℕ) → suc (suc (length (take_while is_in_line more))) < m
        → m ≤ length (b ∷ c ∷ more) → is_lexeme (take m (b ∷ c ∷ more)) ≡ false
    later run test zero lt le = absurd (omega arith)
    later run test (suc zero) lt le = absurd (omega arith)
    later run test (suc (suc m)) lt le = test (take m more) ∙ run_past is_in_line more m (omega arith) (omega arith)

-- a comment between its marks
slash_is_no_symbol : (b : ℕ) → nat_eq 47 b ≡ true → is_symbol (b ∷ []) ≡ false
unfolding is_symbol
slash_is_no_symbol b h = rw (← eqb-true 47 b h) refl

front_between : (b c : ℕ) (more : List ℕ) (o : Option ℕ) → BeginsMark b → begins_line_comment (b ∷ c ∷ more) ≡ false → begins_comment (b ∷ c ∷ more) ≡ true
    → comment_end 2 false more ≡ o → Front (b ∷ c ∷ more) (option_map_or (λ n. White n) o (Bad (code_of L 4)))
front_between b c more o mark h k e = by_end o e
  where
    one : is_lexeme (b ∷ []) ≡ false
    one = mark.test [] ∙ mark_is_symbol (b ∷ []) (no_line_comment (b ∷ c ∷ more) 1 h) (or_one (nat_eq 47 b)) ∙ slash_is_no_symbol b (and_left (nat_eq 47 b) _ k)
      where
        or_one : (t : Bool) → t && false ≡ false
        or_one true = refl
        or_one false = refl

    test : (xs : List ℕ) → is_lexeme (b ∷ c ∷ xs) ≡ is_comment false xs
    test xs = mark.test (c ∷ xs) ∙ mark_is_comment (b ∷ c ∷ xs) h k

    none_some : (n : ℕ) → None ≡ Some n → ⊥
    none_some n h = cc

    same_end : (n m : ℕ) → Some n ≡ Some m → n ≡ m
    same_end n m h = cc

    by_end : (o : Option ℕ) → comment_end 2 false more ≡ o → Front (b ∷ c ∷ more) (option_map_or (λ n. White n) o (Bad (code_of L 4)))
    by_end None e = nothing none (ap Bad (sym (open_code (b == 39) (begins_comment (b ∷ c ∷ more)) k)))
      where
        none : (m : ℕ) → m ≤ length (b ∷ c ∷ more) → is_lexeme (take m (b ∷ c ∷ more)) ≡ false
        none zero le = refl
        none (suc zero) le = one
        none (suc (suc m)) le = test (take m more) ∙ not_true (is_comment false (take m more)) (λ p. none_some (2 + m) (sym e
            ∙ comment_exact 2 false more m (omega arith) p))
    by_end (Some n) e =
        let at = comment_found 2 false more n e in
        let long : n ≡ suc (suc at.k) = at.is ∙ omega arith in
        let within : suc (suc at.k) ≤ length (b ∷ c ∷ more) = omega (arith, at.within) in
        let piece : lexeme_piece (take (suc (suc at.k)) (b ∷ c ∷ more)) ≡ White (suc (suc at.k)) = mark.piece (c ∷ take at.k more) ∙ lexeme_comment (b ∷ c
        ∷ take at.k more) (or_second _ _ k) ∙ ap White (length-take-le (suc (suc at.k)) (b ∷ c ∷ more) within) in
        lexeme (suc (suc at.k)) (record { within = within; is = test (take at.k more) ∙ at.passes; longest = later at.k n e at.is }) (ap White long
        ∙ sym piece) long
      where
        later : (k n : ℕ) → comment_end 2 false more ≡ Some n → n ≡ 2 + k → (m : ℕ) → suc (suc k) < m → m ≤ length (b ∷ c ∷ more) → is_lexeme (take m (b ∷ c
            ∷ more)) ≡ false
        later k n e is zero lt le = absurd (omega arith)
        later k n e is (suc zero) lt le = absurd (omega arith)
        later k n e is (suc (suc m)) lt le = test (take m more) ∙ not_true (is_comment false (take m more)) (λ p. absurd (omega (
          arith,
          same_end n (2 + m)
              (sym e ∙ comment_exact 2 false more m (omega arith) p),
          is,
          lt,
        )))

front_comment : (b : ℕ) (rest : List ℕ) → BeginsMark b → begins_line_comment (b ∷ rest) ≡ false → begins_comment (b ∷ rest) ≡ true → Front (b
    ∷ rest) (comment_piece (drop 2 (b ∷ rest)))
front_comment b [] mark h k = absurd (omega (arith, begins_within (b ∷ []) (codes "/*") k))
front_comment b (c ∷ more) mark h k = front_between b c more (comment_end 2 false more) mark h k refl

pub front_mark : (b : ℕ) (rest : List ℕ) → BeginsMark b → Front (b ∷ rest) (mark_piece (b ∷ rest))
front_mark b rest mark =
    let bytes = b ∷ rest in
    let P = λ (piece : Piece). Front bytes piece in
    by_bool (begins_line_comment bytes)
    (λ h. subst P (sym (ap (λ t. cond t (White (length (take_while is_in_line bytes))) (cond (begins_comment bytes) (comment_piece (drop 2 bytes))
    (symbol_piece bytes))) h)) (front_line b rest mark h))
    (λ h. by_bool (begins_comment bytes)
    (λ k. subst P (sym (ap (λ t. cond t (White (length (take_while is_in_line bytes))) (cond (begins_comment bytes) (comment_piece (drop 2 bytes))
    (symbol_piece bytes))) h ∙ ap (λ t. cond t (comment_piece (drop 2 bytes)) (symbol_piece bytes)) k)) (front_comment b rest mark h k))
    (λ k. subst P (sym (ap (λ t. cond t (White (length (take_while is_in_line bytes))) (cond (begins_comment bytes) (comment_piece (drop 2 bytes))
    (symbol_piece bytes))) h ∙ ap (λ t. cond t (comment_piece (drop 2 bytes)) (symbol_piece bytes)) k)) (front_symbol b rest mark h k)))
