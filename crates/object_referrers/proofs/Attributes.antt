-- The slots that an index tells of an object are those that refer to it.
use Rattle.std.proofs.Common.{◌≡◌, ℕ, ◌<◌, zero, suc, Bool, true, false, ◌&&◌, ◌||◌, cond, List, [], ◌∷◌, ◌++◌, length, get_or, map, Option, Some, None, refl, sym, ap, ap₂, ◌∙◌, is_eq, true≢false, Less, arith}
use Rattle.std.specs.BTreeMap.{is_at}
use Rattle.std.specs.Cmp.{nat_cmp_total}
use Rattle.std.specs.List.{filter, flat_map, list_any}
use Rattle.std.specs.List.Sorted.{IsStrictlySortedBy}
use Rattle.std.specs.Map.{keys_of, lookup}
use Rattle.std.specs.Option.{option_map_or}
use Rattle.std.specs.Ordering.{is_le, nat_cmp, ordering_then}
use Rattle.std.specs.Prelude.{nat_eq}
use Rattle.std.proofs.lemmas.Bool.{eqb-true}
use Rattle.std.proofs.lemmas.List.Folds.{list_any-append}
use Rattle.std.proofs.lemmas.List.Quantifiers.{position-Some}
use Rattle.std.proofs.lemmas.Map.Lookups.{exact_unsigned}
use Rattle.std.proofs.lemmas.Map.Views.{any-filter_same}
use Rattle.use_orders.specs.Canon.{has}
use Rattle.use_orders.proofs.Merged.{is_set}
use Rattle.object_state.specs.declared.layout.Layout.{Layout}
use Rattle.object_state.specs.declared.objects.Object.{Object}
use Rattle.object_state.specs.Layouts.{attrs, place, slot}
use Rattle.object_state.specs.State.{State, link_cmp, object}
use Rattle.object_state.specs.Valid.{IsValid}
use Rattle.object_state.proofs.Back.{link_exact, link_total}
use Rattle.object_state.proofs.Hits.{nat_same}
use Rattle.object_state.proofs.Keyed.{by_test, equal}
use Rattle.object_store.proofs.Listed.{none_below}
use Rattle.object_referrers.specs.Kept.{TellsAll}
use Rattle.object_referrers.specs.Places.{slot_key_cmp}
use Rattle.object_referrers.specs.Referring.{place_refers_to, slot_refers_to, slots_referring_to}
use Rattle.object_referrers.proofs.Carried.{placed, referred}
use Rattle.object_referrers.proofs.Names.{there, told}
use Rattle.object_referrers.proofs.Placed.{or_true, shared, then_equal}
use Rattle.object_referrers.proofs.Ranged.{has_within, ranged, ranged_is, rises, within}

swap : (a b c : Bool) → ((a && b) || (a && c)) ≡ (a && (b || c))
swap true b c = refl
swap false b c = refl

or_false : (b : Bool) → (b || false) ≡ b
or_false true = refl
or_false false = refl

any_at : (p : ℕ → Bool) (xs : List ℕ) (i : ℕ) → i < length xs → p (get_or xs i 0) ≡ true → list_any p xs ≡ true
any_at p [] i h e = absurd (omega (arith, h))
any_at p (x ∷ xs) zero h e = ap (λ b. b || list_any p xs) e
any_at p (x ∷ xs) (suc i) h e = ap (λ b. p x || b) (any_at p xs i (omega (arith, h)) e) ∙ or_true (p x)

pairs_in : (xs : List ℕ) (n x a : ℕ) → has link_cmp (map (λ b. (n, b)) xs) (x, a) ≡ (nat_eq x n && list_any (nat_eq a) xs)
pairs_in [] n x a = sym (none (nat_eq x n))
  where
    none : (b : Bool) → (b && false) ≡ false
    none true = refl
    none false = refl
pairs_in (b ∷ xs) n x a =
    ap₂ (λ c d. c || d) (then_equal (nat_cmp x n) (nat_cmp a b) ∙ ap₂ (λ c d. c && d) (nat_same x n) (nat_same a b)) (pairs_in xs n x a)
    ∙ swap (nat_eq x n) (nat_eq a b) (list_any (nat_eq a) xs)

module _ (l : Layout) (o : ℕ) where
  attr_told : (y : Object) (a : ℕ) → list_any (nat_eq a) (filter (slot_refers_to l y o) (attrs l y.class)) ≡ slot_refers_to l y o a
  attr_told y a =
      any-filter_same (nat_eq a) (slot_refers_to l y o) (slot_refers_to l y o a) (λ k e. ap (slot_refers_to l y o) (sym (eqb-true a k e))) (attrs l y.class)
      ∙ told (slot_refers_to l y o a) (list_any (nat_eq a) (attrs l y.class)) (λ h.
      let r = referred o (slot l y a) h in
      let p = placed y.slots (place l y.class a) r.0 r.1 in
      let q = position-Some (nat_eq a) (attrs l y.class) p.0 0 p.1 in
      any_at (nat_eq a) (attrs l y.class) p.0 q.0 q.1)

  abbrev pairs : ℕ × Object → List (ℕ × ℕ)
  pairs e = map (λ a. (e.0, a)) (filter (slot_refers_to l e.1 o) (attrs l e.1.class))

  has_pairs : (es : List (ℕ × Object)) → IsStrictlySortedBy nat_cmp (keys_of es) → (x a : ℕ)
      → has link_cmp (flat_map pairs es) (x, a) ≡ option_map_or (λ (y : Object). slot_refers_to l y o a) (lookup (is_at (nat_cmp x)) es) false
  unfolding IsStrictlySortedBy
  has_pairs [] s x a = refl
  has_pairs (e ∷ es) s x a = by (has_pairs es s.1 x a)
    where
      parts : has link_cmp (flat_map pairs (e ∷ es)) (x, a) ≡ ((nat_eq x e.0 && slot_refers_to l e.1 o a) || has link_cmp (flat_map pairs es) (x, a))
      parts = list_any-append (λ y. is_eq (link_cmp (x, a) y)) (pairs e) (flat_map pairs es)
          ∙ ap (λ b. b || has link_cmp (flat_map pairs es) (x, a)) (pairs_in (filter (slot_refers_to l e.1 o) (attrs l e.1.class)) e.0 x a
          ∙ ap (λ b. nat_eq x e.0 && b) (attr_told e.1 a))

      seen : Option Object → Bool
      seen u = option_map_or (λ (y : Object). slot_refers_to l y o a) u false

      by : has link_cmp (flat_map pairs es) (x, a) ≡ option_map_or (λ (y : Object). slot_refers_to l y o a) (lookup (is_at (nat_cmp x)) es) false
          → has link_cmp (flat_map pairs (e ∷ es)) (x, a) ≡ option_map_or (λ (y : Object). slot_refers_to l y o a) (lookup (is_at (nat_cmp x)) (e ∷ es)) false
      by rest = by_test (is_at (nat_cmp x) e.0)
          (λ y.
          let none : lookup (is_at (nat_cmp x)) es ≡ None =
          ap (λ (z : ℕ). lookup (is_at (nat_cmp z)) es) (exact_unsigned x e.0 (equal _ y)) ∙ none_below nat_cmp_total es e.0 s.0 in
          parts ∙ ap₂ (λ b c. (b && slot_refers_to l e.1 o a) || c) (sym (nat_same x e.0) ∙ y) (rest ∙ ap seen none)
          ∙ or_false (slot_refers_to l e.1 o a) ∙ sym (ap (λ b. seen (cond b (Some e.1) (lookup (is_at (nat_cmp x)) es))) y))
          (λ n.
          parts ∙ ap (λ b. (b && slot_refers_to l e.1 o a) || has link_cmp (flat_map pairs es) (x, a)) (sym (nat_same x e.0) ∙ n) ∙ rest
          ∙ sym (ap (λ b. seen (cond b (Some e.1) (lookup (is_at (nat_cmp x)) es))) n))

from_zero : (n : ℕ) → is_le (nat_cmp 0 n) ≡ true
from_zero n = grind arith

below : (m : ℕ) → nat_cmp 0 (suc m) ≡ Less
below m = grind arith

pub zero_first : (t : ℕ × ℕ) → is_le (link_cmp (0, 0) t) ≡ true
zero_first (zero, n) = from_zero n
zero_first (suc m, n) = ap (λ r. is_le (ordering_then r (nat_cmp 0 n))) (below m)

pub slots_told : (l : Layout) (s : State) (o : ℕ) (p : List (ℕ × (ℕ × ℕ))) (n : List (ℕ × List ℕ)) → IsValid l s → IsStrictlySortedBy slot_key_cmp p
    → TellsAll (record { layout = l; state = s }) p n
    → ranged link_cmp link_total link_exact (0, 0) zero_first o (place_refers_to l s o) p ≡ slots_referring_to l s o
slots_told l s o p n v up tells =
    let Q = place_refers_to l s o in
    ranged_is link_cmp link_total link_exact (0, 0) zero_first o Q p up
    ∙ is_set link_total link_exact (within link_cmp link_total link_exact (0, 0) zero_first o Q p) (flat_map (pairs l o) s.objects)
    (rises link_cmp link_total link_exact (0, 0) zero_first o Q p up)
    (λ q. has_within link_cmp link_total link_exact (0, 0) zero_first o Q p q
    ∙ told (Q q) (has slot_key_cmp p (o, q)) (λ h.
    let r = there (λ (y : Object). slot_refers_to l y o q.1) (object s q.0) h in
    tells.slots o q.0 q.1 r.0 r.1 r.2)
    ∙ sym (has_pairs l o s.objects v.objects.ordered q.0 q.1))
