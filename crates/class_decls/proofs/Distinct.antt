-- Texts that differ, one after another.
use Rattle.std.proofs.Common.{◌≡◌, ℕ, ◌+◌, ◌<◌, Bool, true, false, cond, not, ◌&&◌, ◌||◌, List, [], ◌∷◌, ◌++◌, Bor, HashSet, map, take, drop, length, get_or, refl, sym, ap, ap₂, ◌∙◌, true≢false}
use Rattle.std.specs.Cmp.Lexicographic.{nat_list_eq_equiv}
use Rattle.std.specs.HashSet.{contains_by, keys}
use Rattle.std.specs.List.{list_all, list_any}
use Rattle.std.specs.Str.{bytes_eq}
use Rattle.std.proofs.lemmas.List.{map-append, take-append-drop, take_more}
use Rattle.std.proofs.lemmas.List.Folds.{list_any-append}
use Rattle.class_decls.specs.Different.{all_differ}
use Rattle.class_decls.specs.Texts.{has_text, same_text}
use Rattle.class_decls.proofs.TextSets.{any-map}

any_alike : {A : Type 0} (f g : A → Bool) → ((x : A) → f x ≡ g x) → (xs : List A) → list_any f xs ≡ list_any g xs
any_alike f g h [] = refl
any_alike f g h (x ∷ xs) = ap₂ (λ a b. a || b) (h x) (any_alike f g h xs)

-- the names of a set, as the set is asked
pub has_key : {S : Type 0} (s : HashSet (Bor (List ℕ)) S) (t : List ℕ) → has_text (map (λ k. k.now) (keys s)) t ≡ contains_by (λ k. bytes_eq t k.now) s
has_key s t = any-map (λ y. same_text y t) (λ k. k.now) (keys s)
    ∙ any_alike (λ k. same_text k.now t) (λ k. bytes_eq t k.now) (λ k. nat_list_eq_equiv.symm k.now t) (keys s)

pub or_at : (b x : Bool) → cond b true x ≡ (x || b)
or_at true true = refl
or_at true false = refl
or_at false true = refl
or_at false false = refl

or_none : (b : Bool) → b ≡ (b || false)
or_none true = refl
or_none false = refl

step : (a s b c : Bool) → (not (a || s) && (b && not c)) ≡ ((not a && b) && not (s || c))
step true s b c = refl
step false true true c = refl
step false true false c = refl
step false false b c = refl

-- one text more differs if it was not there
pub differ_more : (ts : List (List ℕ)) (t : List ℕ) → all_differ (ts ++ t ∷ []) ≡ (all_differ ts && not (has_text ts t))
differ_more [] t = refl
differ_more (u ∷ ts) t =
    ap₂ (λ a b. not a && b)
    (list_any-append (λ y. same_text y u) ts (t ∷ []) ∙ ap (λ b. has_text ts u || b) (sym (or_none (same_text t u)) ∙ nat_list_eq_equiv.symm t u))
    (differ_more ts t)
    ∙ step (has_text ts u) (same_text u t) (all_differ ts) (has_text ts t)

front : (a b x y : Bool) → (x ≡ false → y ≡ false) → (not a && x) ≡ false → (not (a || b) && y) ≡ false
front true b x y h e = refl
front false true x y h e = refl
front false false x y h e = h e

pub differ_front : (ts us : List (List ℕ)) → all_differ ts ≡ false → all_differ (ts ++ us) ≡ false
differ_front [] us e = absurd (true≢false e)
differ_front (t ∷ ts) us e =
    rw (list_any-append (λ y. same_text y t) ts us)
    (front (has_text ts t) (has_text us t) (all_differ ts) (all_differ (ts ++ us)) (differ_front ts us) e)

all_front : {A : Type 0} (test : A → Bool) (xs ys : List A) → list_all test xs ≡ false → list_all test (xs ++ ys) ≡ false
all_front test [] ys e = absurd (true≢false e)
all_front test (x ∷ xs) ys e = both (test x) (list_all test xs) (list_all test (xs ++ ys)) (all_front test xs ys) e where
  both : (a b c : Bool) → (b ≡ false → c ≡ false) → (a && b) ≡ false → (a && c) ≡ false
  both true b c h e = h e
  both false b c h e = refl

module _ {X : Type 0} (xs : List X) where
  whole : (i : ℕ) → take i xs ++ drop i xs ≡ xs
  whole i = take-append-drop i xs

  pub all_past : (test : X → Bool) (i : ℕ) → list_all test (take i xs) ≡ false → list_all test xs ≡ false
  all_past test i e = ap (list_all test) (sym (whole i)) ∙ all_front test (take i xs) (drop i xs) e

  module _ (f : X → List ℕ) where
    -- where the first texts do not all differ, all texts do not
    pub differ_past : (i : ℕ) → all_differ (map f (take i xs)) ≡ false → all_differ (map f xs) ≡ false
    differ_past i e = ap (λ l. all_differ (map f l)) (sym (whole i)) ∙ ap all_differ (map-append f (take i xs) (drop i xs))
        ∙ differ_front (map f (take i xs)) (map f (drop i xs)) e

    next : (i : ℕ) (d : X) → i < length xs → map f (take (i + 1) xs) ≡ map f (take i xs) ++ f (get_or xs i d) ∷ []
    next i d h = ap (map f) (take_more xs i d h) ∙ map-append f (take i xs) (get_or xs i d ∷ [])

    pub differ_next : (i : ℕ) (d : X) → i < length xs →
        all_differ (map f (take (i + 1) xs)) ≡ (all_differ (map f (take i xs)) && not (has_text (map f (take i xs)) (f (get_or xs i d))))
    differ_next i d h = ap all_differ (next i d h) ∙ differ_more (map f (take i xs)) (f (get_or xs i d))

    pub has_next : (i : ℕ) (d : X) (t : List ℕ) → i < length xs →
        has_text (map f (take (i + 1) xs)) t ≡ (has_text (map f (take i xs)) t || same_text (f (get_or xs i d)) t)
    has_next i d t h =
        ap (λ l. has_text l t) (next i d h) ∙ list_any-append (λ y. same_text y t) (map f (take i xs)) (f (get_or xs i d) ∷ [])
        ∙ ap (λ b. has_text (map f (take i xs)) t || b) (sym (or_none (same_text (f (get_or xs i d)) t)))
