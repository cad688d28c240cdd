-- The first place of some and of others.
use Rattle.std.proofs.Common.{◌≡◌, ℕ, Bool, true, false, not, cond, List, [], ◌∷◌, ◌++◌, Option, Some, map, filter, refl, ap, ◌∙◌}
use Rattle.use_text.specs.declared.place.Place.{Place}
use Rattle.class_decls.specs.declared.decls.Name.{Name}
use Rattle.class_decls.specs.Entries.{earlier, first_of}
use Rattle.class_decls.specs.References.{places_outside}

pub first_of-append : (more : Option Place) (ps qs : List Place) → first_of more (ps ++ qs) ≡ first_of (first_of more qs) ps
first_of-append more [] qs = refl
first_of-append more (p ∷ ps) qs = ap (λ o. Some (earlier p o)) (first_of-append more ps qs)

kept : (b : Bool) (n : Name) (xs ys : List Name) → map (λ m. m.place) xs ≡ map (λ m. m.place) ys → map (λ m. m.place) (cond b (n
    ∷ xs) xs) ≡ map (λ m. m.place) (cond b (n ∷ ys) ys)
kept true n xs ys e = ap (λ l. n.place ∷ l) e
kept false n xs ys e = e

pub outside_alike : (f g : List ℕ → Bool) → ((t : List ℕ) → f t ≡ g t) → (names : List Name) → places_outside f names ≡ places_outside g names
outside_alike f g same [] = refl
outside_alike f g same (n ∷ ns) =
    ap (λ b. map (λ m. m.place) (cond (not b) (n ∷ filter (λ m. not (f m.text)) ns) (filter (λ m. not (f m.text)) ns))) (same n.text)
    ∙ kept (not (g n.text)) n (filter (λ m. not (f m.text)) ns) (filter (λ m. not (g m.text)) ns) (outside_alike f g same ns)
