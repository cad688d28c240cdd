-- Where a text stands in another, by bytes and by characters.
use Rattle.std.proofs.Common.{◌≡◌, ◌≢◌, ℕ, zero, suc, ◌+◌, ◌<◌, ◌≤◌, List, [], ◌∷◌, ◌++◌, length, take, drop, nat_eq, ap, sym, refl, ◌∙◌, Bool, true, false}
use Rattle.std.proofs.Common.{if◌then◌else◌, append_assoc, arith}
use Rattle.std.specs.Cmp.Lexicographic.{pointwise, same_text}
use Rattle.std.specs.List.{starts_with}
use Rattle.std.specs.Str.{chars, encode_utf8_all, IsUtf8, IsCharBoundary}
use Rattle.std.specs.Str.Pattern.{LacksTextAt, HasTextAt}
use Rattle.std.proofs.Math.Seq.{drop-append_seam, take-append_seam}
use Rattle.std.proofs.lemmas.Cmp.{nat_list_eq_equiv}
use Rattle.std.proofs.lemmas.List.{take-append-drop, length-append, length-take-le}
use Rattle.std.proofs.lemmas.Str.{encodes-append, encodes-chars, chars-append, length-le-encodes, IsUtf8-take}
use Rattle.ocl_values.specs.Strings.{index_of, one_later}

-- a list that starts with another

begins : (ts xs : List ℕ) → starts_with nat_eq xs ts ≡ true → xs ≡ ts ++ drop (length ts) xs
begins ts xs e = sym (take-append-drop (length ts) xs) ∙ ap (λ front. front ++ drop (length ts) xs) (sym (same_text ts (take (length ts) xs) (sym e)))

begun : (ts rs : List ℕ) → starts_with nat_eq (ts ++ rs) ts ≡ true
begun ts rs = ap (pointwise nat_eq ts) (take-append_seam ts rs) ∙ nat_list_eq_equiv.refl ts

told : (ts xs : List ℕ) (b : Bool) → starts_with nat_eq xs ts ≡ b → ((rs : List ℕ) → xs ≢ ts ++ rs) → b ≡ false
told ts xs true e h = absurd (h (drop (length ts) xs) (begins ts xs e))
told ts xs false e h = refl

not_begun : (ts xs : List ℕ) → ((rs : List ℕ) → xs ≢ ts ++ rs) → starts_with nat_eq xs ts ≡ false
not_begun ts xs h = told ts xs (starts_with nat_eq xs ts) refl h

-- the first place

later : (m n : ℕ) → m ≡ n + 1 → one_later m ≡ n + 1 + 1
later zero n e = absurd (omega arith)
later (suc m) n e = omega arith

pub index_first : (ts cs ds : List ℕ) → starts_with nat_eq ds ts ≡ true
    → ((fs gs : List ℕ) → cs ≡ fs ++ gs → 0 < length gs → starts_with nat_eq (gs ++ ds) ts ≡ false) → index_of ts (cs ++ ds) ≡ length cs + 1
index_first ts [] [] here before = ap (λ b. if b then 1 else 0) here
index_first ts [] (d ∷ ds) here before = ap (λ b. if b then 1 else one_later (index_of ts ds)) here
index_first ts (c ∷ cs) ds here before =
    let rest : index_of ts (cs ++ ds) ≡ length cs + 1 = index_first ts cs ds here (λ fs gs e some. before (c ∷ fs) gs (ap (λ xs. c ∷ xs) e) some) in
    let more : one_later (index_of ts (cs ++ ds)) ≡ length cs + 1 + 1 = later (index_of ts (cs ++ ds)) (length cs) rest in
    ap (λ b. if b then 1 else one_later (index_of ts (cs ++ ds))) (before [] (c ∷ cs) refl (omega arith)) ∙ more ∙ omega arith

pub index_none : (ts cs : List ℕ) → ((fs gs : List ℕ) → cs ≡ fs ++ gs → starts_with nat_eq gs ts ≡ false) → index_of ts cs ≡ 0
index_none ts [] never = ap (λ b. if b then 1 else 0) (never [] [] refl)
index_none ts (c ∷ cs) never =
    let rest : index_of ts cs ≡ 0 = index_none ts cs (λ fs gs e. never (c ∷ fs) gs (ap (λ xs. c ∷ xs) e)) in
    ap (λ b. if b then 1 else one_later (index_of ts cs)) (never [] (c ∷ cs) refl) ∙ ap one_later rest

-- characters do not stand where their bytes do not
lacking : (s t fs xs : List ℕ) → IsUtf8 t → s ≡ encode_utf8_all (fs ++ xs) → LacksTextAt t s (length (encode_utf8_all fs))
    → starts_with nat_eq xs (chars t) ≡ false
lacking s t fs xs v whole lacks = not_begun (chars t) xs (λ rs e.
    lacks (encode_utf8_all rs) (
    ap (drop (length (encode_utf8_all fs))) (whole ∙ encodes-append fs xs) ∙ drop-append_seam (encode_utf8_all fs) (encode_utf8_all xs)
    ∙ ap encode_utf8_all e ∙ encodes-append (chars t) rs ∙ ap (λ bytes. bytes ++ encode_utf8_all rs) (encodes-chars t v)))

module _ (s t : List ℕ) (u : IsUtf8 s) (v : IsUtf8 t) where
  -- the place of the first occurrence
  pub found_at : (at j : ℕ) → IsCharBoundary s at → ((i : ℕ) → i < at → LacksTextAt t s i) → HasTextAt t s at j
      → length (chars (take at s)) + 1 ≡ index_of (chars t) (chars s)
  found_at at j cut before here =
      let front = take at s in
      let back = drop at s in
      let whole : chars s ≡ chars front ++ chars back =
      ap chars (sym (take-append-drop at s)) ∙ chars-append front back (IsUtf8-take s at u cut) in
      let starts : starts_with nat_eq (chars back) (chars t) ≡ true =
      ap (λ xs. starts_with nat_eq xs (chars t)) (ap chars here.split ∙ chars-append t (drop j s) v) ∙ begun (chars t) (chars (drop j s)) in
      sym (ap (index_of (chars t)) whole ∙ index_first (chars t) (chars front) (chars back) starts (λ fs gs e some.
      let bytes : s ≡ encode_utf8_all (fs ++ (gs ++ chars back)) =
      sym (encodes-chars s u) ∙ ap encode_utf8_all (whole ∙ ap (λ xs. xs ++ chars back) e ∙ append_assoc fs gs (chars back)) in
      let parts : front ≡ encode_utf8_all fs ++ encode_utf8_all gs =
      sym (encodes-chars front (IsUtf8-take s at u cut)) ∙ ap encode_utf8_all e ∙ encodes-append fs gs in
      let long = length-le-encodes gs in
      let lengths : length front ≡ length (encode_utf8_all fs) + length (encode_utf8_all gs) =
      ap length parts ∙ length-append (encode_utf8_all fs) (encode_utf8_all gs) in
      let size : length front ≡ at = length-take-le at s cut.0 in
      lacking s t fs (gs ++ chars back) v bytes (before (length (encode_utf8_all fs)) (omega (arith, long, lengths, size, some)))))

  -- no place where there is no occurrence
  pub found_nowhere : ((i : ℕ) → i ≤ length s → LacksTextAt t s i) → 0 ≡ index_of (chars t) (chars s)
  found_nowhere never = sym (index_none (chars t) (chars s) (λ fs gs e.
      let bytes : s ≡ encode_utf8_all (fs ++ gs) = sym (encodes-chars s u) ∙ ap encode_utf8_all e in
      let lengths : length s ≡ length (encode_utf8_all fs) + length (encode_utf8_all gs) =
      ap length (bytes ∙ encodes-append fs gs) ∙ length-append (encode_utf8_all fs) (encode_utf8_all gs) in
      lacking s t fs gs v bytes (never (length (encode_utf8_all fs)) (omega (arith, lengths)))))
