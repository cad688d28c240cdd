-- A part of some entries, by the numbers in their keys.
use Rattle.std.proofs.Common.{◌≡◌, ℕ, Bool, true, false, cond, ◌&&◌, List, [], ◌∷◌, map, Option, Some, None, refl, sym, ap}
use Rattle.std.proofs.Common.{◌∙◌, Ordering, Less, is_eq}
use Rattle.std.specs.BTreeMap.{is_at}
use Rattle.std.specs.Cmp.{IsTotalOrder}
use Rattle.std.specs.List.{AllByRecursion, filter}
use Rattle.std.specs.List.Sorted.{IsStrictlySortedBy}
use Rattle.std.specs.Map.{keys_of, lookup}
use Rattle.std.specs.Option.{option_and_then}
use Rattle.std.specs.Ordering.{nat_cmp}
use Rattle.std.proofs.lemmas.Map.Lookups.{CmpEqualImpliesEq}
use Rattle.object_state.proofs.Keyed.{equal}
use Rattle.object_store.proofs.Listed.{none_below}

module _ {K V W : Type 0} {R : K → K → Ordering} (o : IsTotalOrder R) (exact : CmpEqualImpliesEq R) (number : K → ℕ) (at : ℕ → K) (t : K → Bool) (q : V → Bool)
    (f : V → W) where
  abbrev pub passes : K × V → Bool
  passes e = t e.0 && q e.1

  abbrev pub selected : List (K × V) → List (ℕ × W)
  selected es = map (λ e. (number e.0, f e.1)) (filter passes es)

  abbrev pub taken : Option V → Option W
  taken u = option_and_then (λ v. cond (q v) (Some (f v)) None) u

  pub lookup_selected : ((n : ℕ) (k : K) → (t k && is_eq (nat_cmp n (number k))) ≡ is_at (R (at n)) k) → (es : List (K × V)) (n : ℕ)
      → IsStrictlySortedBy R (keys_of es) → lookup (is_at (nat_cmp n)) (selected es) ≡ taken (lookup (is_at (R (at n))) es)
  unfolding IsStrictlySortedBy
  lookup_selected same [] n s = refl
  lookup_selected same (e ∷ es) n s = by (lookup_selected same es n s.1) (t e.0) (q e.1) (is_eq (nat_cmp n (number e.0))) refl refl refl
    where
      gone : is_at (R (at n)) e.0 ≡ true → lookup (is_at (R (at n))) es ≡ None
      gone y = ap (λ (z : K). lookup (is_at (R z)) es) (exact (at n) e.0 (equal _ y)) ∙ none_below o es e.0 s.0

      by : lookup (is_at (nat_cmp n)) (selected es) ≡ taken (lookup (is_at (R (at n))) es)
          → (a b c : Bool) → t e.0 ≡ a → q e.1 ≡ b → is_eq (nat_cmp n (number e.0)) ≡ c
          → lookup (is_at (nat_cmp n)) (selected (e ∷ es)) ≡ taken (lookup (is_at (R (at n))) (e ∷ es))
      by rest true true true x y z = let w : is_at (R (at n)) e.0 ≡ true = sym (same n e.0) ∙ (λ i. x i && z i) in rw (x, y, z, w, y) refl
      by rest true true false x y z = let w : is_at (R (at n)) e.0 ≡ false = sym (same n e.0) ∙ (λ i. x i && z i) in rw (x, y, z, w) rest
      by rest true false true x y z = let w : is_at (R (at n)) e.0 ≡ true = sym (same n e.0) ∙ (λ i. x i && z i) in rw (x, y, w, y) (rest ∙ ap taken (gone w))
      by rest true false false x y z = let w : is_at (R (at n)) e.0 ≡ false = sym (same n e.0) ∙ (λ i. x i && z i) in rw (x, y, w) rest
      by rest false b c x y z = let w : is_at (R (at n)) e.0 ≡ false = sym (same n e.0) ∙ (λ i. x i && z i) in rw (x, w) rest

  module _ (mono : (k m : K) → t k ≡ true → t m ≡ true → R k m ≡ Less → nat_cmp (number k) (number m) ≡ Less) where
    all_selected : (k : K) → t k ≡ true → (es : List (K × V)) → AllByRecursion (λ y. R k y ≡ Less) (keys_of es)
        → AllByRecursion (λ y. nat_cmp (number k) y ≡ Less) (keys_of (selected es))
    all_selected k x [] a = tt
    all_selected k x (e ∷ es) a = by (all_selected k x es a.1) (t e.0) (q e.1) refl refl
      where
        by : AllByRecursion (λ y. nat_cmp (number k) y ≡ Less) (keys_of (selected es)) → (b c : Bool) → t e.0 ≡ b → q e.1 ≡ c
            → AllByRecursion (λ y. nat_cmp (number k) y ≡ Less) (keys_of (selected (e ∷ es)))
        by rest true true y z = rw (y, z) (mono k e.0 x y a.0, rest)
        by rest true false y z = rw (y, z) rest
        by rest false c y z = rw y rest

    pub sorted_selected : (es : List (K × V)) → IsStrictlySortedBy R (keys_of es) → IsStrictlySortedBy nat_cmp (keys_of (selected es))
    unfolding IsStrictlySortedBy
    sorted_selected [] s = tt
    sorted_selected (e ∷ es) s = by (sorted_selected es s.1) (t e.0) (q e.1) refl refl
      where
        by : IsStrictlySortedBy nat_cmp (keys_of (selected es)) → (b c : Bool) → t e.0 ≡ b → q e.1 ≡ c
            → IsStrictlySortedBy nat_cmp (keys_of (selected (e ∷ es)))
        by rest true true y z = rw (y, z) (all_selected e.0 y es s.0, rest)
        by rest true false y z = rw (y, z) rest
        by rest false c y z = rw y rest
