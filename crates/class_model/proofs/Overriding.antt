-- The declaration that overrides all others.
use Rattle.std.proofs.Common.{◌≡◌, ℕ, Bool, true, false, ◌||◌, cond, nat_eq, List, [], ◌∷◌, Option, Some, None, find, is_some, refl, sym, ap, ◌∙◌, true≢false, ⊎_elim}
use Rattle.std.specs.List.{list_any}
use Rattle.std.proofs.lemmas.Bool.Decides.{eqb_tells}

itself : (x : ℕ) → nat_eq x x ≡ true
itself x = ⊎_elim (λ t. t.0) (λ t. absurd (t.1 refl)) (eqb_tells x x)

or_true : (a : Bool) → (a || true) ≡ true
or_true true = refl
or_true false = refl

met_by : (b : Bool) (x o : ℕ) (rest : List ℕ) (found : Option ℕ) → cond b (Some x) found ≡ Some o → (found ≡ Some o → list_any (nat_eq o) rest ≡ true)
    → (nat_eq o x || list_any (nat_eq o) rest) ≡ true
met_by true x o rest found e h = let k : x ≡ o = cc in ap (λ b. b || list_any (nat_eq o) rest) (ap (nat_eq o) k ∙ itself o)
met_by false x o rest found e h = ap (λ b. nat_eq o x || b) (h e) ∙ or_true (nat_eq o x)

-- what is found is there
pub found_there : (test : ℕ → Bool) (xs : List ℕ) (o : ℕ) → find test xs ≡ Some o → list_any (nat_eq o) xs ≡ true
found_there test [] o e = cc
found_there test (x ∷ xs) o e = met_by (test x) x o xs (find test xs) e (found_there test xs o)

passes_by : (test : ℕ → Bool) (b : Bool) (x o : ℕ) (found : Option ℕ) → test x ≡ b → cond b (Some x) found ≡ Some o → (found ≡ Some o → test o ≡ true) → test o ≡ true
passes_by test true x o found t e h = let k : x ≡ o = cc in ap test (sym k) ∙ t
passes_by test false x o found t e h = h e

-- and passes
pub found_passes : (test : ℕ → Bool) (xs : List ℕ) (o : ℕ) → find test xs ≡ Some o → test o ≡ true
found_passes test [] o e = cc
found_passes test (x ∷ xs) o e = passes_by test (test x) x o (find test xs) refl e (found_passes test xs o)

some_by : (test : ℕ → Bool) (b : Bool) (x o : ℕ) (rest : List ℕ) (found : Option ℕ) → test x ≡ b → (nat_eq o x || list_any (nat_eq o) rest) ≡ true → test o ≡ true
    → (list_any (nat_eq o) rest ≡ true → is_some found ≡ true) → is_some (cond b (Some x) found) ≡ true
some_by test true x o rest found t h e f = refl
some_by test false x o rest found t h e f =
    ⊎_elim
    (λ s. absurd (true≢false (sym e ∙ ap test s.1 ∙ t)))
    (λ s. f (sym (ap (λ b. b || list_any (nat_eq o) rest) s.0) ∙ h))
    (eqb_tells o x)

-- one that is there and passes is found, or one before it
pub found_some : (test : ℕ → Bool) (xs : List ℕ) (o : ℕ) → list_any (nat_eq o) xs ≡ true → test o ≡ true → is_some (find test xs) ≡ true
found_some test [] o h e = absurd (true≢false (sym h))
found_some test (x ∷ xs) o h e = some_by test (test x) x o xs (find test xs) refl h e (λ k. found_some test xs o k e)
