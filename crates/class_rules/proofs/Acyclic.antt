-- Declarations without a cycle.
use Rattle.std.proofs.Common.{◌≡◌, ℕ, zero, suc, ◌<◌, Bool, true, false, cond, nat_lt, List, [], ◌∷◌, length, map, take, Option, Some, None, is_some, refl, sym, ap, ◌∙◌, subst, arith, true≢false, ⊎_elim, slice_get, option_map, option_and_then}
use Rattle.std.specs.Option.{option_or}
use Rattle.std.proofs.lemmas.Bool.{cases_Bool}
use Rattle.use_text.specs.declared.place.Place.{Place}
use Rattle.class_decls.specs.declared.decls.ClassDecl.{ClassDecl}
use Rattle.class_decls.specs.declared.decls.Decls.{Decls}
use Rattle.class_decls.proofs.Numbered.{all_taken}
use Rattle.class_rules.specs.Cycles.{NumbersEach}
use Rattle.class_rules.specs.Numbering.{closes_cycle, has_cycle, inheritance_cycle, least_below, numbering, parent_places}
use Rattle.class_rules.proofs.Flags.{least_within}
use Rattle.class_rules.proofs.Unnumbered.{numbers_each}

none_at : (xs : List ClassDecl) (i : ℕ) → i < length xs → option_map (λ c. c.name.place) (slice_get xs i) ≡ None → ⊥
none_at [] i h e = omega arith
none_at (x ∷ xs) zero h e = cc
none_at (x ∷ xs) (suc i) h e = none_at xs i (omega arith) e

none_given : (xs : List ClassDecl) (o : Option ℕ) → ((i : ℕ) → o ≡ Some i → i < length xs)
    → option_map (λ c. c.name.place) (option_and_then (slice_get xs) o) ≡ None → o ≡ None
none_given xs None h e = refl
none_given xs (Some i) h e = absurd (none_at xs i (h i refl) e)

last_some : (o : Option ℕ) (b : Bool) (k : ℕ) → b ≡ true → is_some (option_or o (cond b (Some k) None)) ≡ true
last_some (Some i) b k h = refl
last_some None true k h = refl
last_some None false k h = absurd (true≢false (sym h))

some_least : (parents : List (List ℕ)) (n : ℕ) → has_cycle parents n ≡ true → is_some (least_below (closes_cycle parents) n) ≡ true
some_least parents zero h = absurd (true≢false (sym h))
some_least parents (suc n) h = last_some (least_below (closes_cycle parents) n) (closes_cycle parents n) n h

by_test : (b : Bool) (o : Option Place) → cond b o None ≡ None → b ≡ true → o ≡ None
by_test true o h e = h
by_test false o h e = absurd (true≢false (sym e))

pub no_cycle : (ds : Decls) → inheritance_cycle ds ≡ None → has_cycle (parent_places ds) (length ds.classes) ≡ false
no_cycle ds h =
    ⊎_elim
    (λ e.
    let closes = least_below (closes_cycle (parent_places ds)) (length ds.classes) in
    let gone = none_given ds.classes closes (λ i k. least_within (closes_cycle (parent_places ds)) (length ds.classes) i k)
    (by_test (has_cycle (parent_places ds) (length ds.classes)) (option_map (λ c. c.name.place) (option_and_then (slice_get ds.classes) closes)) h e) in
    absurd (true≢false (sym (some_least (parent_places ds) (length ds.classes) e) ∙ ap is_some gone)))
    (λ e. e)
    (cases_Bool (has_cycle (parent_places ds) (length ds.classes)))

map_length : {A B : Type 0} (f : A → B) (xs : List A) → length (map f xs) ≡ length xs
map_length f [] = refl
map_length f (x ∷ xs) = ap suc (map_length f xs)

-- every class has one number
pub all_numbered : (ds : Decls) → inheritance_cycle ds ≡ None → NumbersEach (numbering (parent_places ds)) (length ds.classes)
all_numbered ds h =
    let ps = parent_places ds in
    let size : length ps ≡ length ds.classes = map_length _ ds.classes in
    let whole : take (length ds.classes) ps ≡ ps = all_taken ps (length ds.classes) (omega arith) in
    subst (NumbersEach (numbering ps)) size (numbers_each ps (sym (ap (λ l. nat_lt (length (numbering l)) (length l)) whole) ∙ no_cycle ds h))
