-- One more of which something holds.
use Rattle.std.proofs.Common.{◌≡◌, ℕ, ◌≤◌, List, [], ◌∷◌, ◌++◌, All, length, sym, subst, take}
use Rattle.std.specs.Prelude.{OnOk, Result, Ok, Err}
use Rattle.std.proofs.lemmas.List.{take_all}
use Rattle.std.proofs.lemmas.List.Elements.{All-push}

pub pushed : {A E X : Type 0} (P : X → Type 0) (told : Result A E) (xs ys : List X) (x : X) → OnOk told (ys ≡ xs ++ x ∷ []) → All P xs → P x → OnOk told (All P ys)
pushed P (Ok a) xs ys x e h g = subst (All P) (sym e) (All-push P xs x h g)
pushed P (Err e) xs ys x h g k = tt

-- all of a list are what was looked at
pub whole : {X : Type 0} (P : X → Type 0) (xs : List X) (n : ℕ) → length xs ≤ n → All P (take n xs) → All P xs
whole P xs n l h = subst (All P) (take_all n xs l) h
