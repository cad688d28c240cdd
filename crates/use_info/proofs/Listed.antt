-- What is listed of a state, number by number and association by association.
use Rattle.std.proofs.Common.{◌≡◌, ℕ, zero, suc, ◌+◌, ◌<◌, ◌≤◌, Bool, true, false, List, [], ◌∷◌, ◌++◌, length, map, take, get_or, Option, Some, None, refl, sym, ap, ap₂, ◌∙◌, true≢false, append_assoc, append-nil, arith, Ordering, Less, ◌==◌}
use Rattle.std.specs.Prelude.{nat_eq, nat_lt, slice_get}
use Rattle.std.specs.BTreeMap.{is_at}
use Rattle.std.specs.Cmp.{nat_cmp_total, eq_by_cmp_equiv}
use Rattle.std.specs.List.{AllByRecursion, filter, flat_map, zip}
use Rattle.std.specs.List.Sorted.{IsStrictlySortedBy}
use Rattle.std.specs.Map.{keys_of, lookup}
use Rattle.std.specs.Option.{option_map_or}
use Rattle.std.specs.Ordering.{nat_cmp, ordering_then}
use Rattle.std.proofs.lemmas.Bool.Decides.{nat_tests}
use Rattle.std.proofs.lemmas.Grind.{flat_map-append}
use Rattle.std.proofs.lemmas.Map.Entries.{lookup_from_place}
use Rattle.std.proofs.lemmas.Map.Keys.{IsDistinct-from_sorted, sorted_head, sorted_tail}
use Rattle.class_model.specs.declared.numbers.End.{End}
use Rattle.class_model.specs.declared.numbers.End.TheVariants.{First}
use Rattle.object_state.specs.declared.layout.Layout.{Layout}
use Rattle.object_state.specs.declared.objects.Object.{Object}
use Rattle.object_state.specs.Layouts.{class_at, is_a, may_stand}
use Rattle.object_state.specs.State.{State, link_cmp, object}
use Rattle.object_state.specs.Valid.{IsValid}
use Rattle.object_state.proofs.Back.{link_total}
use Rattle.std.proofs.lemmas.Option.{slice_get_within}
use Rattle.object_state.proofs.Keyed.{by_test}

-- each number's object, looked up, and then each object
module _ {X : Type 0} (h : X → List ℕ) (es : List (ℕ × X)) where
  abbrev pub found : ℕ → List ℕ
  found o = option_map_or h (lookup (is_at (nat_cmp o)) es) []

  listed : (xs : List (ℕ × X)) → ((i : ℕ) (k : ℕ) (v : X) → slice_get xs i ≡ Some (k, v) → lookup (is_at (nat_cmp k)) es ≡ Some v)
      → flat_map found (map (λ e. e.0) xs) ≡ flat_map (λ e. h e.1) xs
  listed [] own = refl
  listed (x ∷ xs) own =
      ap₂ (λ a b. a ++ b) (ap (λ f. option_map_or h f []) (own 0 x.0 x.1 refl)) (listed xs (λ i k v e. own (suc i) k v e))

  pub each-found : IsStrictlySortedBy nat_cmp (keys_of es) → flat_map found (map (λ e. e.0) es) ≡ flat_map (λ e. h e.1) es
  each-found sorted =
      listed es (λ i k v e. lookup_from_place (eq_by_cmp_equiv nat_cmp_total) es i k v (IsDistinct-from_sorted nat_cmp (keys_of es) sorted) e)

-- values beside their keys, up to one key more
module _ {K X : Type 0} (f : K × X → List ℕ) where
  pub zip-more : (ks : List K) (xs : List X) (i : ℕ) (d : K) → i < length ks
      → flat_map f (zip (take (i + 1) ks) xs) ≡ flat_map f (zip (take i ks) xs) ++ option_map_or (λ x. f (get_or ks i d, x)) (slice_get xs i) []
  zip-more [] xs i d h = absurd (omega arith)
  zip-more (k ∷ ks) [] zero d h = refl
  zip-more (k ∷ ks) (x ∷ xs) zero d h = append-nil (f (k, x))
  zip-more (k ∷ ks) [] (suc i) d h = let e : suc i + 1 ≡ suc (i + 1) = omega arith in ap (λ n. flat_map f (zip (take n (k ∷ ks)) [])) e
  zip-more (k ∷ ks) (x ∷ xs) (suc i) d h =
      let e : suc i + 1 ≡ suc (i + 1) = omega arith in
      ap (λ n. flat_map f (zip (take n (k ∷ ks)) (x ∷ xs))) e
      ∙ ap (λ t. f (k, x) ++ t) (zip-more ks xs i d (omega arith))
      ∙ sym (append_assoc (f (k, x)) (flat_map f (zip (take i ks) xs)) (option_map_or (λ y. f (get_or ks i d, y)) (slice_get xs i) []))

  pub zip-grown : (ks : List K) (xs : List X) (i : ℕ) (d : K) (o now new : List ℕ) → i < length ks → now ≡ o ++ flat_map f (zip (take i ks) xs)
      → new ≡ now ++ option_map_or (λ x. f (get_or ks i d, x)) (slice_get xs i) [] → new ≡ o ++ flat_map f (zip (take (i + 1) ks) xs)
  zip-grown ks xs i d o now new h e n =
      n ∙ ap (λ t. t ++ option_map_or (λ x. f (get_or ks i d, x)) (slice_get xs i) []) e
      ∙ append_assoc o (flat_map f (zip (take i ks) xs)) (option_map_or (λ x. f (get_or ks i d, x)) (slice_get xs i) [])
      ∙ ap (λ t. o ++ t) (sym (zip-more ks xs i d h))

-- the links of the associations before one
abbrev pub before : ℕ → (ℕ × ℕ) × (ℕ × ℕ) → Bool
before n e = nat_lt e.0.0 n

abbrev pub of : ℕ → (ℕ × ℕ) × (ℕ × ℕ) → Bool
of n e = nat_eq e.0.0 n

no-later : (a b : ℕ) (r : Ordering) → ordering_then (nat_cmp a b) r ≡ Less → a ≤ b
no-later a b r h =
    by_test (nat_lt a b) (λ y. grind (arith, nat_tests)) (λ n. by_test (a == b) (λ y. grind (arith, nat_tests)) (λ m. absurd (apart n m)))
  where
    apart : nat_lt a b ≡ false → (a == b) ≡ false → ⊥
    apart n m = cc

none-before : (n : ℕ) (k : ℕ × ℕ) (es : List ((ℕ × ℕ) × (ℕ × ℕ))) → n ≤ k.0 → AllByRecursion (λ q. link_cmp k q ≡ Less) (keys_of es) → filter (before n) es ≡ []
none-before n k [] h a = refl
none-before n k (e ∷ es) h a =
    let up : k.0 ≤ e.0.0 = no-later k.0 e.0.0 _ (a.0) in
    let no : nat_lt e.0.0 n ≡ false = grind (arith, nat_tests) in
    rw no (none-before n k es h (a.1))

pub one-more : (n : ℕ) (es : List ((ℕ × ℕ) × (ℕ × ℕ))) → IsStrictlySortedBy link_cmp (keys_of es) → filter (before (n + 1)) es ≡ filter (before n) es ++ filter (of n) es
one-more n [] sorted = refl
one-more n (e ∷ es) sorted =
    let rest = one-more n es (sorted_tail link_cmp e.0 (keys_of es) sorted) in
    by_test (nat_lt e.0.0 n)
    (λ y.
    let z : nat_lt e.0.0 (n + 1) ≡ true = grind (arith, nat_tests) in
    let x : nat_eq e.0.0 n ≡ false = grind (arith, nat_tests) in
    rw (y, z, x) (ap (λ l. e ∷ l) rest))
    (λ y. by_test (nat_eq e.0.0 n)
    (λ x.
    let z : nat_lt e.0.0 (n + 1) ≡ true = grind (arith, nat_tests) in
    let up : n ≤ e.0.0 = grind (arith, nat_tests) in
    let none = none-before n e.0 es up (sorted_head link_cmp e.0 (keys_of es) sorted) in
    rw (y, z, x) (ap (λ l. e ∷ l) (rest ∙ ap (λ l. l ++ filter (of n) es) none) ∙ sym (ap (λ l. l ++ (e ∷ filter (of n) es)) none)))
    (λ x.
    let z : nat_lt e.0.0 (n + 1) ≡ false = grind (arith, nat_tests) in
    rw (y, z, x) rest))

pub no-links : (es : List ((ℕ × ℕ) × (ℕ × ℕ))) → filter (before 0) es ≡ []
no-links [] = refl
no-links (e ∷ es) = let no : nat_lt e.0.0 0 ≡ false = grind (arith, nat_tests) in rw no (no-links es)

all-before : (n : ℕ) (es : List ((ℕ × ℕ) × (ℕ × ℕ))) → ((i : ℕ) (k p : ℕ × ℕ) → slice_get es i ≡ Some (k, p) → k.0 < n) → filter (before n) es ≡ es
all-before n [] h = refl
all-before n (e ∷ es) h =
    let low : e.0.0 < n = h 0 e.0 e.1 refl in
    let yes' : nat_lt e.0.0 n ≡ true = grind (arith, nat_tests) in
    rw yes' (ap (λ l. e ∷ l) (all-before n es (λ i k p s. h (suc i) k p s)))

-- what is made of the pairs of an association, and of the links with their association
module _ (line : ℕ → ℕ × ℕ → List ℕ) where
  abbrev pub each : (ℕ × ℕ) × (ℕ × ℕ) → List ℕ
  each e = line e.0.0 e.1

  of-pairs : (n : ℕ) (es : List ((ℕ × ℕ) × (ℕ × ℕ))) → flat_map (line n) (map (λ e. e.1) (filter (of n) es)) ≡ flat_map each (filter (of n) es)
  of-pairs n [] = refl
  of-pairs n (e ∷ es) =
      by_test (nat_eq e.0.0 n)
      (λ y. let same : n ≡ e.0.0 = grind (arith, nat_tests) in rw y (ap₂ (λ a b. a ++ b) (ap (λ k. line k e.1) same) (of-pairs n es)))
      (λ n'. rw n' (of-pairs n es))

  pub links-more : (n : ℕ) (es : List ((ℕ × ℕ) × (ℕ × ℕ))) (o now new : List ℕ) → IsStrictlySortedBy link_cmp (keys_of es)
      → now ≡ o ++ flat_map each (filter (before n) es) → new ≡ now ++ flat_map (line n) (map (λ e. e.1) (filter (of n) es))
      → new ≡ o ++ flat_map each (filter (before (n + 1)) es)
  links-more n es o now new sorted h e =
      e ∙ ap₂ (λ a b. a ++ b) h (of-pairs n es)
      ∙ append_assoc o (flat_map each (filter (before n) es)) (flat_map each (filter (of n) es))
      ∙ ap (λ t. o ++ t) (sym (ap (flat_map each) (one-more n es sorted) ∙ flat_map-append each (filter (before n) es) (filter (of n) es)))

-- a link's association is one of the model
within : {A : Type 0} (test : A → Bool) (xs : List A) (a : ℕ) (q : Option A) → slice_get xs a ≡ q → option_map_or test q false ≡ true → a < length xs
within test xs a None e h = absurd (true≢false (sym h))
within test xs a (Some x) e h = slice_get_within xs a x e

stands-within : (l : Layout) (a : ℕ) (e : End) (q : Option Object) → option_map_or (λ x. may_stand l a e x.class) q false ≡ true → a < length l.assocs
stands-within l a e None h = absurd (true≢false (sym h))
stands-within l a e (Some x) h = within (λ y. is_a l x.class (class_at y e)) l.assocs a (slice_get l.assocs a) refl h

pub all-links : (l : Layout) (s : State) (n : ℕ) → IsValid l s → length l.assocs ≤ n → filter (before n) s.links ≡ s.links
all-links l s n v h =
    all-before n s.links (λ i k p e.
    let low = stands-within l k.0 First (object s p.0)
    (v.joins k p (lookup_from_place (eq_by_cmp_equiv link_total) s.links i k p (IsDistinct-from_sorted link_cmp (keys_of s.links) v.links.ordered) e)).first in
    omega arith)
