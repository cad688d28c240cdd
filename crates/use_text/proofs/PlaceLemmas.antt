-- The place behind bytes that stand in one line.
use Rattle.std.proofs.Common.{◌≡◌, ℕ, suc, ◌+◌, ◌==◌, true, false, List, [], ◌∷◌, length, take_while, arith, refl, ap, ◌∙◌}
use Rattle.use_text.specs.declared.place.Place.{Place}
use Rattle.use_text.specs.Pieces.{is_in_line}
use Rattle.use_text.specs.Places.{place_at, behind, behind_all}
use Rattle.use_text.proofs.LexemeLemmas.{by_bool, run_length, run_stops}

abbrev IsBehindLine : Place → List ℕ → Type 0
IsBehindLine p bytes = length (take_while is_in_line bytes) ≡ length bytes → behind_all p bytes ≡ place_at p.line (p.col + length bytes)

pub behind_line : (p : Place) (bytes : List ℕ) → length (take_while is_in_line bytes) ≡ length bytes → behind_all p bytes ≡ place_at p.line (p.col + length bytes)
behind_line p [] e = let f : p.col + 0 ≡ p.col = omega arith in rw f refl
behind_line p (b ∷ rest) e = by_bool (b == 10) ends (on (behind_line (place_at p.line (p.col + 1)) rest))
  where
    ends : b == 10 ≡ true → behind_all p (b ∷ rest) ≡ place_at p.line (p.col + length (b ∷ rest))
    ends h =
        let s : is_in_line b ≡ false = rw h refl in
        let l : length (take_while is_in_line (b ∷ rest)) ≡ 0 = ap length (run_stops is_in_line b rest s) in
        absurd (omega (arith, l, e))

    on : IsBehindLine (place_at p.line (p.col + 1)) rest → b == 10 ≡ false → behind_all p (b ∷ rest) ≡ place_at p.line (p.col + length (b ∷ rest))
    on more h =
        let s : is_in_line b ≡ true = rw h refl in
        let l : length (take_while is_in_line (b ∷ rest)) ≡ suc (length (take_while is_in_line rest)) = ap length (run_length is_in_line b rest s) in
        let n : behind p b ≡ place_at p.line (p.col + 1) = rw h refl in
        let c : p.col + 1 + length rest ≡ p.col + length (b ∷ rest) = omega arith in
        ap (λ (q : Place). behind_all q rest) n ∙ more (omega (arith, l, e)) ∙ ap (λ (k : ℕ). place_at p.line k) c
