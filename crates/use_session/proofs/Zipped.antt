-- Texts of lists that are gone through side by side.
use Rattle.std.proofs.Common.{◌≡◌, ℕ, ◌+◌, ◌<◌, ◌≤◌, min, List, ◌++◌, get_or, length, take, sym, ap, ◌∙◌, arith}
use Rattle.std.specs.List.{flat_map, zip}
use Rattle.std.proofs.lemmas.List.{take_all}
use Rattle.std.proofs.lemmas.Slice.Zip.{get_or-zip, length-zip}
use Rattle.use_info.proofs.Pieces.{grown}

module _ {X Y : Type 0} (f : X × Y → List ℕ) (xs : List X) (ys : List Y) where
  -- of one pair more
  pub zip_grown : (i : ℕ) (x : X) (y : Y) (start now new : List ℕ) → i < length xs → i < length ys → x ≡ get_or xs i x → y ≡ get_or ys i y
      → now ≡ start ++ flat_map f (take i (zip xs ys)) → new ≡ now ++ f (x, y) → new ≡ start ++ flat_map f (take (i + 1) (zip xs ys))
  zip_grown i x y start now new h k e g is more =
      let long = length-zip xs ys in
      let pair : ◌≡◌ {A = X × Y} (x, y) (get_or (zip xs ys) i (x, y)) = (λ j. (e j, g j)) ∙ sym (get_or-zip xs ys i (x, y) h k) in
      grown f (zip xs ys) i (x, y) start now new (omega arith) is (more ∙ ap (λ (p : X × Y). now ++ f p) pair)

  -- of all of them
  pub zip_all : (n : ℕ) (start now : List ℕ) → min (length xs) (length ys) ≤ n → now ≡ start ++ flat_map f (take n (zip xs ys))
      → now ≡ start ++ flat_map f (zip xs ys)
  zip_all n start now h is =
      let long = length-zip xs ys in
      is ∙ ap (λ (l : List (X × Y)). start ++ flat_map f l) (take_all n (zip xs ys) (omega arith))
