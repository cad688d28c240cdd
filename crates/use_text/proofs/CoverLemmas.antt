-- The lexemes of a text, and its tokens.
use Rattle.std.proofs.Common.{◌≡◌, ℕ, zero, suc, ◌+◌, ◌<◌, ◌≤◌, Bool, true, false, List, [], ◌∷◌, length, take, drop, arith, refl, sym, ap, ◌∙◌, subst, inl, inr, length-drop}
use Rattle.std.proofs.lemmas.Bool.{cases_lt}
use Rattle.use_text.specs.declared.place.Place.{Place}
use Rattle.use_text.specs.declared.token.Token.{Token as TokenAt}
use Rattle.use_text.specs.declared.piece.Piece.{Piece}
use Rattle.use_text.specs.declared.piece.Piece.TheVariants.{White, Token, Bad}
use Rattle.use_text.specs.Places.{behind_all}
use Rattle.use_text.specs.Pieces.{piece_of}
use Rattle.use_text.specs.Tokens.{tokens_from, reading, before, token_at}
use Rattle.use_text.specs.Lexemes.{is_lexeme, lexeme_piece, IsLongest, HasNoLexeme, HasLexemes, broken_code, lexeme_tokens, LexemesExist, LexemesAreUnique, TokensAreLexemes}
use Rattle.use_text.proofs.TokenLemmas.{white_read, token_read, bad_read}
use Rattle.use_text.proofs.LexemeLemmas.{IsSized, Front, lexeme, nothing}
use Rattle.use_text.proofs.FrontLemmas.{front}

differ : (t : Bool) → t ≡ true → t ≡ false → ⊥
differ t h k = cc

longest_some : (bytes : List ℕ) (n : ℕ) → IsLongest bytes n → 0 < n
longest_some bytes zero is = absurd (differ false is.is refl)
longest_some bytes (suc n) is = omega arith

-- one front is the longest
same_length : (bytes : List ℕ) (n m : ℕ) → IsLongest bytes n → IsLongest bytes m → n ≡ m
same_length bytes n m a b =
    elim (cases_lt n m) [
      | inl less ↦ absurd (differ (is_lexeme (take m bytes)) b.is (a.longest m less b.within))
      | inr more ↦ elim (cases_lt m n) [
        | inl less ↦ absurd (differ (is_lexeme (take n bytes)) a.is (b.longest n less a.within))
        | inr same ↦ omega arith
      ]
    ]

none_longest : (bytes : List ℕ) (n : ℕ) → HasNoLexeme bytes → IsLongest bytes n → ⊥
none_longest bytes n none is = differ (is_lexeme (take n bytes)) is.is (none n is.within)

pub unique : LexemesAreUnique
unique text [] [] a b = refl
unique text [] (m ∷ ms) a b = absurd (none_longest text m a b.0)
unique text (n ∷ ns) [] a b = absurd (none_longest text n b a.0)
unique text (n ∷ ns) (m ∷ ms) a b =
    let e = same_length text n m a.0 b.0 in
    let P : ℕ → Type 0 = λ k. HasLexemes (drop k text) ms in
    let rest : ns ≡ ms = unique (drop n text) ns ms a.1 (subst P (sym e) b.1) in
    ap (λ k. k ∷ ns) e ∙ ap (λ l. m ∷ l) rest

exist_by : (text : List ℕ) → ((n : ℕ) → 0 < n → n ≤ length text → (ns : List ℕ) × HasLexemes (drop n text) ns) → Front text (piece_of text)
    → (ns : List ℕ) × HasLexemes text ns
exist_by text more (nothing none bad) = ([], none)
exist_by text more (lexeme n is piece sized) = let rest = more n (longest_some text n is) is.within in (n ∷ rest.0, (is, rest.1))

exist_within : (fuel : ℕ) (text : List ℕ) → length text ≤ fuel → (ns : List ℕ) × HasLexemes text ns
exist_within zero text le = exist_by text (λ n some within. absurd (omega arith)) (front text)
exist_within (suc fuel) text le = exist_by text (λ n some within. exist_within fuel (drop n text) (omega (arith, length-drop n text))) (front text)

pub exist : LexemesExist
exist text = exist_within (length text) text (omega arith)

-- the front of bytes that have a longest lexeme
piece_is : (bytes : List ℕ) (n : ℕ) → IsLongest bytes n → Front bytes (piece_of bytes) → (piece_of bytes ≡ lexeme_piece (take n bytes)) × IsSized n
    (piece_of bytes)
piece_is bytes n is (nothing none bad) = absurd (none_longest bytes n none is)
piece_is bytes n is (lexeme m is_m piece sized) =
    let e = same_length bytes m n is_m is in
    let P : ℕ → Type 0 = λ k. (piece_of bytes ≡ lexeme_piece (take k bytes)) × IsSized k (piece_of bytes) in
    subst P e (piece, sized)

bad_is : (bytes : List ℕ) → HasNoLexeme bytes → Front bytes (piece_of bytes) → piece_of bytes ≡ Bad (broken_code bytes)
bad_is bytes none (nothing other bad) = bad
bad_is bytes none (lexeme n is piece sized) = absurd (none_longest bytes n none is)

read_lexeme : (bytes ns : List ℕ) (n at : ℕ) (place : Place) (end : TokenAt) (piece : Piece) → 0 < n → n ≤ length bytes → piece_of bytes ≡ piece
    → IsSized n piece
    → ((end : TokenAt) → tokens_from 0 (at + n) (behind_all place (take n bytes)) end (drop n bytes) ≡ lexeme_tokens (at + n) (behind_all place
    (take n bytes)) end (drop n bytes) ns)
    → tokens_from 0 at place end bytes ≡ reading piece at place end (λ skip end. lexeme_tokens (at + n) (behind_all place (take n bytes)) end (drop n bytes) ns)
read_lexeme bytes ns n at place end (White k) some within is sized more = white_read n at place end bytes some within (is ∙ ap White sized) ∙ more end
read_lexeme bytes ns n at place end (Token kind k) some within is sized more =
    token_read kind n at place end bytes some within (is ∙ ap (Token kind) sized) ∙ ap (before (token_at kind at (at + n) place)) (more _) ∙ rw sized refl
read_lexeme bytes ns n at place end (Bad code) some within is sized more = bad_read code at place end bytes (omega arith) is

read_end : (bytes : List ℕ) (at : ℕ) (place : Place) (end : TokenAt) → HasNoLexeme bytes → tokens_from 0 at place end bytes ≡ lexeme_tokens at place end bytes
    []
read_end [] at place end none = refl
read_end (b ∷ rest) at place end none = bad_read (broken_code (b ∷ rest)) at place end (b ∷ rest) (omega arith) (bad_is (b ∷ rest) none (front (b ∷ rest)))

read_all : (bytes ns : List ℕ) (at : ℕ) (place : Place) (end : TokenAt) → HasLexemes bytes ns
    → tokens_from 0 at place end bytes ≡ lexeme_tokens at place end bytes ns
read_all bytes [] at place end has = read_end bytes at place end has
read_all bytes (n ∷ ns) at place end has =
    let is = piece_is bytes n has.0 (front bytes) in
    let more = λ (end : TokenAt). read_all (drop n bytes) ns (at + n) (behind_all place (take n bytes)) end has.1 in
    read_lexeme bytes ns n at place end (piece_of bytes) (longest_some bytes n has.0) (has.0).within refl is.1 more
    ∙ ap (λ p. reading p at place end (λ skip end. lexeme_tokens (at + n) (behind_all place (take n bytes)) end (drop n bytes) ns)) is.0

pub tokens_are : TokensAreLexemes
tokens_are first_line text ns has = read_all text ns 0 _ _ has
