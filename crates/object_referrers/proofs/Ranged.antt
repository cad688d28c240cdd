-- The places that an index tells of one object are a part of it.
use Rattle.std.proofs.Common.{◌≡◌, ℕ, Bool, true, false, ◌&&◌, ◌||◌, not, cond, List, [], ◌∷◌, map, refl, sym, ap, ap₂, ◌∙◌, Ordering, Less, Equal, Greater, is_eq, true≢false, arith}
use Rattle.std.specs.BTreeMap.Range.{range_contains}
use Rattle.std.specs.Cmp.{IsTotalOrder}
use Rattle.std.specs.List.{AllByRecursion, filter, take_while}
use Rattle.std.specs.List.Sorted.{IsStrictlySortedBy}
use Rattle.std.specs.Ordering.{is_le, nat_cmp, ordering_then}
use Rattle.std.specs.Prelude.{nat_eq}
use Rattle.std.specs.declared.ops.Bound.TheVariants.{Included, Unbounded}
use Rattle.std.proofs.lemmas.Bool.{eq-eqb, eqb-true}
use Rattle.std.proofs.lemmas.Cmp.{tied_itself}
use Rattle.std.proofs.lemmas.List.Sums.{take_while-cons}
use Rattle.std.proofs.lemmas.Map.Lookups.{CmpEqualImpliesEq, exact_unsigned}
use Rattle.std.specs.Cmp.{nat_cmp_total}
use Rattle.use_orders.specs.Canon.{has}
use Rattle.object_state.proofs.Hits.{nat_same}
use Rattle.object_state.proofs.Keyed.{both, by_order, by_test, equal}
use Rattle.object_referrers.proofs.Placed.{and_false, keyed, then_equal}

module _ {P : Type 0} (R : P → P → Ordering) (total : IsTotalOrder R) (exact : CmpEqualImpliesEq R) (bottom : P) (low : (p : P) → is_le (R bottom p) ≡ true)
    (o : ℕ) (Q : P → Bool) where
  abbrev mine : ℕ × P → Bool
  mine k = nat_eq k.0 o && Q k.1

  abbrev pub within : List (ℕ × P) → List P
  within ks = map (λ k. k.1) (filter mine ks)

  abbrev pub ranged : List (ℕ × P) → List P
  ranged ks = map (λ k. k.1) (filter (λ k. Q k.1) (take_while (λ k. nat_eq k.0 o) (filter (range_contains (keyed R) (Included (o, bottom)) Unbounded) ks)))

  not_mine : (k : ℕ × P) → nat_eq k.0 o ≡ false → mine k ≡ false
  not_mine k h = ap (λ b. b && Q k.1) h

  differ : (n : ℕ) → nat_cmp o n ≡ Less → nat_eq n o ≡ false
  differ n h = grind arith

  differ' : (n : ℕ) → nat_cmp o n ≡ Greater → nat_eq n o ≡ false
  differ' n h = grind arith

  above : (k y : ℕ × P) → nat_cmp o k.0 ≡ Less → keyed R k y ≡ Less → nat_cmp o y.0 ≡ Less
  above k y h l = by_order (nat_cmp k.0 y.0)
      (λ e. nat_cmp_total.trans o k.0 y.0 h e)
      (λ e. ap (nat_cmp o) (sym (exact_unsigned k.0 y.0 e)) ∙ h)
      (λ e. absurd (greater_less (sym (ap (λ r. ordering_then r (R k.1 y.1)) e) ∙ l)))
    where
      greater_less : Greater ≡ Less → ⊥
      greater_less e = cc

  none_after : (ks : List (ℕ × P)) → AllByRecursion (λ y. nat_cmp o y.0 ≡ Less) ks → within ks ≡ []
  none_after [] all = refl
  none_after (k ∷ ks) all = rw (not_mine k (differ k.0 all.0)) (none_after ks all.1)

  all_above : (k : ℕ × P) (ks : List (ℕ × P)) → nat_cmp o k.0 ≡ Less → AllByRecursion (λ y. keyed R k y ≡ Less) ks → AllByRecursion (λ y. nat_cmp o y.0 ≡ Less) ks
  all_above k [] h all = tt
  all_above k (y ∷ ys) h all = (above k y h all.0, all_above k ys h all.1)

  abbrev own : ℕ × P → Bool
  own k = nat_eq k.0 o

  abbrev inside : ℕ × P → Bool
  inside k = range_contains (keyed R) (Included (o, bottom)) Unbounded k

  abbrev found : List (ℕ × P) → List P
  found l = map (λ k. k.1) (filter (λ k. Q k.1) (take_while own l))

  from_less : (k : ℕ × P) → nat_cmp o k.0 ≡ Less → inside k ≡ true
  from_less k h = ap (λ r. is_le (ordering_then r (R bottom k.1)) && true) h

  from_equal : (k : ℕ × P) → nat_cmp o k.0 ≡ Equal → inside k ≡ true
  from_equal k h = ap (λ r. is_le (ordering_then r (R bottom k.1)) && true) h ∙ ap (λ b. b && true) (low k.1)

  from_greater : (k : ℕ × P) → nat_cmp o k.0 ≡ Greater → inside k ≡ false
  from_greater k h = ap (λ r. is_le (ordering_then r (R bottom k.1)) && true) h

  both_cases : (k : ℕ × P) (b c : Bool) (xs ys : List (ℕ × P)) → b ≡ c → map (λ k. k.1) xs ≡ map (λ k. k.1) ys
      → map (λ k. k.1) (cond b (k ∷ xs) xs) ≡ map (λ k. k.1) (cond c (k ∷ ys) ys)
  both_cases k true true xs ys e h = ap (λ l. k.1 ∷ l) h
  both_cases k true false xs ys e h = absurd (true≢false e)
  both_cases k false true xs ys e h = absurd (true≢false (sym e))
  both_cases k false false xs ys e h = h

  pub ranged_is : (ks : List (ℕ × P)) → IsStrictlySortedBy (keyed R) ks → ranged ks ≡ within ks
  unfolding IsStrictlySortedBy
  ranged_is [] s = refl
  ranged_is (k ∷ ks) s = by_order (nat_cmp o k.0)
      (λ h.
      ap (λ b. found (cond b (k ∷ filter inside ks) (filter inside ks))) (from_less k h)
      ∙ ap (λ l. map (λ k. k.1) (filter (λ k. Q k.1) l)) (take_while-cons own k (filter inside ks)
      ∙ ap (λ b. cond b (k ∷ take_while own (filter inside ks)) []) (differ k.0 h))
      ∙ sym (ap (λ b. map (λ k. k.1) (cond b (k ∷ filter mine ks) (filter mine ks))) (not_mine k (differ k.0 h)) ∙ none_after ks (all_above k ks h s.0)))
      (λ h.
      let same : own k ≡ true = eq-eqb k.0 o (sym (exact_unsigned o k.0 h)) in
      ap (λ b. found (cond b (k ∷ filter inside ks) (filter inside ks))) (from_equal k h)
      ∙ ap (λ l. map (λ k. k.1) (filter (λ k. Q k.1) l)) (take_while-cons own k (filter inside ks)
      ∙ ap (λ b. cond b (k ∷ take_while own (filter inside ks)) []) same)
      ∙ both_cases k (Q k.1) (mine k) (filter (λ k. Q k.1) (take_while own (filter inside ks))) (filter mine ks) (sym (ap (λ b. b && Q k.1) same)) (ranged_is ks s.1))
      (λ h.
      ap (λ b. found (cond b (k ∷ filter inside ks) (filter inside ks))) (from_greater k h) ∙ ranged_is ks s.1
      ∙ sym (ap (λ b. map (λ k. k.1) (cond b (k ∷ filter mine ks) (filter mine ks))) (not_mine k (differ' k.0 h))))

  less_at : (k y : ℕ × P) → nat_eq k.0 o ≡ true → mine y ≡ true → keyed R k y ≡ Less → R k.1 y.1 ≡ Less
  less_at k y h m l =
      let same : k.0 ≡ y.0 = eqb-true k.0 o h ∙ sym (eqb-true y.0 o (both (own y) (Q y.1) m).0) in
      let tied : nat_cmp k.0 y.0 ≡ Equal = ap (nat_cmp k.0) (sym same) ∙ tied_itself nat_cmp_total k.0 in
      sym (ap (λ r. ordering_then r (R k.1 y.1)) tied) ∙ l

  all_over : (k : ℕ × P) (ks : List (ℕ × P)) → nat_eq k.0 o ≡ true → AllByRecursion (λ y. keyed R k y ≡ Less) ks → AllByRecursion (λ z. R k.1 z ≡ Less) (within ks)
  all_over k [] h all = tt
  all_over k (y ∷ ys) h all = by_test (mine y)
      (λ m. rw m (less_at k y h m all.0, all_over k ys h all.1))
      (λ n. rw n (all_over k ys h all.1))

  pub rises : (ks : List (ℕ × P)) → IsStrictlySortedBy (keyed R) ks → IsStrictlySortedBy R (within ks)
  unfolding IsStrictlySortedBy
  rises [] s = tt
  rises (k ∷ ks) s = by_test (mine k)
      (λ m. rw m (all_over k ks (both (own k) (Q k.1) m).0 s.0, rises ks s.1))
      (λ n. rw n (rises ks s.1))

  pub has_within : (ks : List (ℕ × P)) (p : P) → has R (within ks) p ≡ (Q p && has (keyed R) ks (o, p))
  has_within [] p = sym (and_false (Q p))
  has_within (k ∷ ks) p = by_test (is_eq (keyed R (o, p) k)) (yes_here (has_within ks p)) (not_here (has_within ks p))
    where
      split : is_eq (keyed R (o, p) k) ≡ (nat_eq o k.0 && is_eq (R p k.1))
      split = then_equal (nat_cmp o k.0) (R p k.1) ∙ ap (λ a. a && is_eq (R p k.1)) (nat_same o k.0)

      turned : nat_eq o k.0 ≡ true → own k ≡ true
      turned h = eq-eqb k.0 o (sym (eqb-true o k.0 h))

      yes_here : has R (within ks) p ≡ (Q p && has (keyed R) ks (o, p)) → is_eq (keyed R (o, p) k) ≡ true → has R (within (k ∷ ks)) p ≡ (Q p && has (keyed R) (k ∷ ks) (o, p))
      yes_here rest y =
          let parts = both (nat_eq o k.0) (is_eq (R p k.1)) (sym split ∙ y) in
          let place : p ≡ k.1 = exact p k.1 (equal _ parts.1) in
          let same : mine k ≡ Q p = ap (λ b. b && Q k.1) (turned parts.0) ∙ ap Q (sym place) in
          by_test (Q p)
          (λ q. ap (λ b. has R (map (λ k. k.1) (cond b (k ∷ filter mine ks) (filter mine ks))) p) (same ∙ q)
          ∙ ap (λ b. b || has R (within ks) p) parts.1
          ∙ sym (ap₂ (λ a b. a && (b || has (keyed R) ks (o, p))) q y))
          (λ q. ap (λ b. has R (map (λ k. k.1) (cond b (k ∷ filter mine ks) (filter mine ks))) p) (same ∙ q)
          ∙ rest ∙ ap (λ b. b && has (keyed R) ks (o, p)) q ∙ sym (ap (λ b. b && has (keyed R) (k ∷ ks) (o, p)) q))

      other : mine k ≡ true → is_eq (keyed R (o, p) k) ≡ false → is_eq (R p k.1) ≡ false
      other m n =
          let here : nat_eq o k.0 ≡ true = eq-eqb o k.0 (sym (eqb-true k.0 o (both (own k) (Q k.1) m).0)) in
          sym (ap (λ b. b && is_eq (R p k.1)) here) ∙ sym split ∙ n

      not_here : has R (within ks) p ≡ (Q p && has (keyed R) ks (o, p)) → is_eq (keyed R (o, p) k) ≡ false → has R (within (k ∷ ks)) p ≡ (Q p && has (keyed R) (k ∷ ks) (o, p))
      not_here rest n = by_test (mine k)
          (λ m. ap (λ b. has R (map (λ k. k.1) (cond b (k ∷ filter mine ks) (filter mine ks))) p) m
          ∙ ap (λ b. b || has R (within ks) p) (other m n) ∙ rest ∙ sym (ap (λ b. Q p && (b || has (keyed R) ks (o, p))) n))
          (λ m. ap (λ b. has R (map (λ k. k.1) (cond b (k ∷ filter mine ks) (filter mine ks))) p) m
          ∙ rest ∙ sym (ap (λ b. Q p && (b || has (keyed R) ks (o, p))) n))
