-- Reading a piece, and then what follows it.
use Rattle.std.proofs.Common.{◌≡◌, ℕ, zero, suc, ◌+◌, ◌-◌, ◌<◌, ◌≤◌, List, [], ◌∷◌, ◌++◌, length, take, drop, Option, Some, None, Ok, Err, arith, refl, ap, ◌∙◌, append_assoc, append-nil, option_to_list, length-drop, All, IfSome}
use Rattle.std.proofs.lemmas.List.Elements.{All-push}
use Rattle.std.proofs.lemmas.List.{drop-drop, length-take}
use Rattle.use_text.specs.declared.place.Place.{Place}
use Rattle.use_text.specs.declared.token.Token.{Token as TokenAt}
use Rattle.use_text.specs.declared.token.TokenKind.{TokenKind}
use Rattle.use_text.specs.declared.token.TokenKind.TheVariants.{End}
use Rattle.use_text.specs.declared.code.Code.{Code}
use Rattle.use_text.specs.declared.piece.Piece.TheVariants.{White, Token, Bad}
use Rattle.use_text.specs.Places.{place_at, behind, behind_all, IsAdvanced}
use Rattle.use_text.specs.Pieces.{piece_of}
use Rattle.use_text.specs.Refusals.{refusal_at}
use Rattle.use_text.specs.Tokens.{Tokens, token_at, before, reading, tokens_from, IsWithin}
use Rattle.use_text.specs.TokenSteps.{before_all, after_step, IsPieceAt}

-- the bytes of a piece that has begun are passed over
pub skipped : (n at : ℕ) (place : Place) (end : TokenAt) (bs : List ℕ) → n ≤ length bs → tokens_from n at place end bs ≡ tokens_from 0 (at + n)
    (behind_all place (take n bs)) end (drop n bs)
skipped zero at place end bs h = let e : at + 0 ≡ at = omega arith in rw e refl
skipped (suc n) at place end [] h = absurd (omega arith)
skipped (suc n) at place end (b ∷ rest) h =
    let e : at + suc n ≡ at + 1 + n = omega arith in
    rw e (skipped n (at + 1) (behind place b) end rest (omega arith))

-- the end of the list behind a token
abbrev pub end_behind : ℕ → Place → ℕ → TokenAt
end_behind at place length = token_at End (at + length) (at + length) (place_at place.line (place.col + length))

rest_of : (n at : ℕ) (place : Place) (end : TokenAt) (b : ℕ) (rest : List ℕ) → 0 < n → n ≤ length (b ∷ rest)
    → tokens_from (n - 1) (at + 1) (behind place b) end rest ≡ tokens_from 0 (at + n) (behind_all place (take n (b ∷ rest))) end (drop n (b ∷ rest))
rest_of zero at place end b rest some within = absurd (omega arith)
rest_of (suc n) at place end b rest some within =
    let e : suc n - 1 ≡ n = omega arith in
    let f : at + suc n ≡ at + 1 + n = omega arith in
    rw (e, f) (skipped n (at + 1) (behind place b) end rest (omega arith))

pub white_read : (n at : ℕ) (place : Place) (end : TokenAt) (bs : List ℕ) → 0 < n → n ≤ length bs → piece_of bs ≡ White n
    → tokens_from 0 at place end bs ≡ tokens_from 0 (at + n) (behind_all place (take n bs)) end (drop n bs)
white_read n at place end [] some within is = absurd (omega arith)
white_read n at place end (b ∷ rest) some within is =
    ap (λ p. reading p at place end (λ skip end. tokens_from skip (at + 1) (behind place b) end rest)) is ∙ rest_of n at place end b rest some within

pub token_read : (kind : TokenKind) (n at : ℕ) (place : Place) (end : TokenAt) (bs : List ℕ) → 0 < n → n ≤ length bs → piece_of bs ≡ Token kind n
    → tokens_from 0 at place end bs ≡ before (token_at kind at (at + n) place) (tokens_from 0 (at + n) (behind_all place (take n bs)) (end_behind at place n)
    (drop n bs))
token_read kind n at place end [] some within is = absurd (omega arith)
token_read kind n at place end (b ∷ rest) some within is =
    ap (λ p. reading p at place end (λ skip end. tokens_from skip (at + 1) (behind place b) end rest)) is
    ∙ ap (before (token_at kind at (at + n) place)) (rest_of n at place (end_behind at place n) b rest some within)

pub bad_read : (code : Code) (at : ℕ) (place : Place) (end : TokenAt) (bs : List ℕ) → 0 < length bs → piece_of bs ≡ Bad code
    → tokens_from 0 at place end bs ≡ Err (refusal_at code place)
bad_read code at place end [] some is = absurd (omega arith)
bad_read code at place end (b ∷ rest) some is = ap (λ p. reading p at place end (λ skip end. tokens_from skip (at + 1) (behind place b) end rest)) is

-- one more token before those that follow
pub before_more : (ts : List TokenAt) (t : TokenAt) (more : Tokens) → before_all (ts ++ t ∷ []) more ≡ before_all ts (before t more)
before_more ts t (Ok more) = ap Ok (append_assoc ts (t ∷ []) more)
before_more ts t (Err r) = refl

pub before_some : (ts : List TokenAt) (t : Option TokenAt) (more : Tokens) → before_all (ts ++ option_to_list t) more ≡ before_all ts (after_step t more)
before_some ts None more = rw (append-nil ts) refl
before_some ts (Some t) more = before_more ts t more

-- the same, as the code reads the text
pub white_at : (text : List ℕ) (at n : ℕ) (place to : Place) (end : TokenAt) → IsPieceAt text at (White n) n
    → to ≡ behind_all place (take (at + n - at) (drop at text)) → tokens_from 0 at place end (drop at text) ≡ tokens_from 0 (at + n) to end (drop (at + n) text)
white_at text at n place to end piece is =
    let e : at + n - at ≡ n = omega arith in
    let within : n ≤ length (drop at text) = omega (arith, piece.within, length-drop at text) in
    white_read n at place end (drop at text) piece.some within piece.is ∙ rw (is, e, drop-drop n at text) refl

pub token_at_place : (text : List ℕ) (kind : TokenKind) (at n : ℕ) (place to : Place) (end : TokenAt) → IsPieceAt text at (Token kind n) n
    → to ≡ behind_all place (take (at + n - at) (drop at text)) → tokens_from 0 at place end (drop at text) ≡ before (token_at kind at (at + n) place)
    (tokens_from 0 (at + n) to (end_behind at place n) (drop (at + n) text))
token_at_place text kind at n place to end piece is =
    let e : at + n - at ≡ n = omega arith in
    let within : n ≤ length (drop at text) = omega (arith, piece.within, length-drop at text) in
    token_read kind n at place end (drop at text) piece.some within piece.is ∙ rw (is, e, drop-drop n at text) refl

pub within_some : (len : ℕ) (ts : List TokenAt) (t : Option TokenAt) → All (IsWithin len) ts → IfSome t (IsWithin len) → All (IsWithin len) (ts
    ++ option_to_list t)
within_some len ts None all one = rw (append-nil ts) all
within_some len ts (Some t) all one = All-push (IsWithin len) ts t all one

-- bytes that are passed advance by their number at most
pub advanced_by : (text : List ℕ) (at n : ℕ) (from to : Place) → IsAdvanced from to (length (take (at + n - at) (drop at text)))
    → IsAdvanced from to (at + n - at)
advanced_by text at n from to by = record {
  line = omega (arith, by.line, length-take (at + n - at) (drop at text));
  col = omega (arith, by.col, length-take (at + n - at) (drop at text));
}
