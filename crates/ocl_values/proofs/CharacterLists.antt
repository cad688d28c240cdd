-- Texts and their lists of characters.
use Rattle.std.proofs.Common.{◌≡◌, ℕ, suc, ◌<◌, ◌≤◌, ⊎_elim, List, [], ◌∷◌, ◌++◌, length, map, get_or, ap, ap₂, sym, refl, ◌∙◌, arith}
use Rattle.std.specs.Str.{chars, encode_utf8_all, IsUtf8}
use Rattle.std.specs.Char.{encode_utf8, to_ascii_uppercase, to_ascii_lowercase}
use Rattle.std.proofs.lemmas.Bool.{cases_lt}
use Rattle.std.proofs.lemmas.List.{map-append, append-nil}
use Rattle.std.proofs.lemmas.Str.{encodes-append, encodes-chars, encode_ascii, inside_one}
use Rattle.std.proofs.lemmas.Str.Ascii.{uppercase_ascii, uppercase_is, lowercase_ascii, lowercase_is}

-- the characters of one text after those of another
pub encodes_both : (s t : List ℕ) → IsUtf8 s → IsUtf8 t → encode_utf8_all (chars s ++ chars t) ≡ s ++ t
encodes_both s t u v = encodes-append (chars s) (chars t) ∙ ap₂ (λ x y. x ++ y) (encodes-chars s u) (encodes-chars t v)

-- a change of case, which leaves every byte past ASCII as it is
module _ (f : ℕ → ℕ) (low : (c : ℕ) → c < 128 → f c < 128) (high : (c : ℕ) → 128 ≤ c → f c ≡ c) where
  map_high : (bs : List ℕ) → ((k : ℕ) → k < length bs → 128 ≤ get_or bs k 0) → map f bs ≡ bs
  map_high [] h = refl
  map_high (b ∷ bs) h = ap₂ (λ x xs. x ∷ xs) (high b (h 0 (omega arith))) (map_high bs (λ k l. h (suc k) (omega arith)))

  bytes_high : (c : ℕ) → 128 ≤ c → (k : ℕ) → k < length (encode_utf8 c) → 128 ≤ get_or (encode_utf8 c) k 0
  bytes_high c h k l = ⊎_elim
      (λ under. absurd (omega (arith, inside_one c [] (encode_utf8 c) k (sym (append-nil (encode_utf8 c))) l under)))
      (λ above. above)
      (cases_lt (get_or (encode_utf8 c) k 0) 128)

  case_encode : (c : ℕ) → encode_utf8 (f c) ≡ map f (encode_utf8 c)
  case_encode c = ⊎_elim
      (λ h. encode_ascii (f c) (low c h) ∙ ap (map f) (sym (encode_ascii c h)))
      (λ h. ap encode_utf8 (high c h) ∙ sym (map_high (encode_utf8 c) (bytes_high c h)))
      (cases_lt c 128)

  case_encodes : (cs : List ℕ) → encode_utf8_all (map f cs) ≡ map f (encode_utf8_all cs)
  case_encodes [] = refl
  case_encodes (c ∷ cs) = ap₂ (λ x y. x ++ y) (case_encode c) (case_encodes cs) ∙ sym (map-append f (encode_utf8 c) (encode_utf8_all cs))

  pub case_chars : (s : List ℕ) → IsUtf8 s → encode_utf8_all (map f (chars s)) ≡ map f s
  case_chars s u = case_encodes (chars s) ∙ ap (map f) (encodes-chars s u)

pub uppercase_chars : (s : List ℕ) → IsUtf8 s → encode_utf8_all (map to_ascii_uppercase (chars s)) ≡ map to_ascii_uppercase s
uppercase_chars = case_chars to_ascii_uppercase uppercase_ascii (λ c h. (uppercase_is c).2 (omega arith))

pub lowercase_chars : (s : List ℕ) → IsUtf8 s → encode_utf8_all (map to_ascii_lowercase (chars s)) ≡ map to_ascii_lowercase s
lowercase_chars = case_chars to_ascii_lowercase lowercase_ascii (λ c h. (lowercase_is c).2 (omega arith))
