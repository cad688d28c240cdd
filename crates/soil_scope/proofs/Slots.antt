-- A name more among those of the shell.
use Rattle.std.proofs.Common.{◌≡◌, ℕ, ◌+◌, ◌<◌, Bool, true, false, cond, List, [], ◌∷◌, ◌++◌, get_or, length, take, Option, Some, None, Result, Ok, Err, OnOk, refl, ap, ◌∙◌, le_of_lt, arith}
use Rattle.std.proofs.lemmas.List.{length-take-le}
use Rattle.class_decls.proofs.Numbered.{take-more}
use Rattle.std.specs.List.{position_from}
use Rattle.std.specs.Option.{option_or}
use Rattle.class_decls.specs.Texts.{same_text}
use Rattle.soil_scope.specs.Shells.{slot_of}

found : (b : Bool) (n : ℕ) (p q r : Option ℕ) → p ≡ option_or q r → cond b (Some n) p ≡ option_or (cond b (Some n) q) r
found true n p q r e = refl
found false n p q r e = e

position_behind : {A : Type 0} (test : A → Bool) (n : ℕ) (xs : List A) (x : A) →
    position_from test n (xs ++ x ∷ []) ≡ option_or (position_from test n xs) (cond (test x) (Some (n + length xs)) None)
position_behind test n [] x = let k : n + 0 ≡ n = omega arith in rw k refl
position_behind test n (y ∷ ys) x =
    let k : n + length (y ∷ ys) ≡ (n + 1) + length ys = omega arith in
    rw k (found (test y) n (position_from test (n + 1) (ys ++ x ∷ [])) (position_from test (n + 1) ys) (cond (test x) (Some ((n + 1) + length ys)) None)
    (position_behind test (n + 1) ys x))

-- where one name more is listed
pub slot_behind : (names : List (List ℕ)) (name other : List ℕ) →
    slot_of (names ++ name ∷ []) other ≡ option_or (slot_of names other) (cond (same_text name other) (Some (length names)) None)
slot_behind names name other =
    let z : 0 + length names ≡ length names = omega arith in
    rw z at (position_behind (λ n. same_text n other) 0 names name)

pub slot_more : (names : List (List ℕ)) (i : ℕ) (x : List ℕ) → i < length names → x ≡ get_or names i x → (other : List ℕ) →
    slot_of (take (i + 1) names) other ≡ option_or (slot_of (take i names) other) (cond (same_text x other) (Some i) None)
slot_more names i x h e other =
    ap (λ l. slot_of l other) (take-more names i x h e) ∙ slot_behind (take i names) x other
    ∙ ap (λ n. option_or (slot_of (take i names) other) (cond (same_text x other) (Some n) None)) (length-take-le i names (le_of_lt h))

pub on_ok : {A E P Q : Type 0} (r : Result A E) → (P → Q) → OnOk r P → OnOk r Q
on_ok (Ok a) f h = f h
on_ok (Err e) f h = tt
