-- The links of a valid state by their stamps, and association after association.
use Rattle.std.proofs.Common.{◌≡◌, ◌≢◌, ℕ, ◌+◌, ◌<◌, ◌≤◌, Bool, true, false, cond, List, [], ◌∷◌, ◌++◌, length, Option, Some, None, refl, sym, ap, ◌∙◌, subst, arith}
use Rattle.std.proofs.Common.{Less, Greater}
use Rattle.std.specs.Cmp.{ranks}
use Rattle.std.specs.List.{AllByRecursion, filter, find, flat_map}
use Rattle.std.specs.List.Sorted.{IsStrictlySortedBy}
use Rattle.std.specs.Map.{keys_of}
use Rattle.std.specs.Option.{option_map}
use Rattle.std.specs.Ordering.{MatchOrdering, nat_cmp, ordering_then}
use Rattle.std.specs.Prelude.{nat_eq, nat_lt, ◌&&◌, slice_get}
use Rattle.std.proofs.lemmas.Bool.{eqb-true, lt-ltb, ltb-false, le-ltb, ltb-true, eqb-false, ne_eqb}
use Rattle.std.proofs.lemmas.Option.{slice_get_within}
use Rattle.class_model.specs.declared.numbers.End.TheVariants.{First}
use Rattle.object_state.specs.declared.layout.AssocLayout.{AssocLayout}
use Rattle.object_state.specs.declared.layout.Layout.{Layout}
use Rattle.object_state.specs.declared.objects.Object.{Object}
use Rattle.object_state.specs.Layouts.{class_at, is_a, may_stand}
use Rattle.object_state.specs.Looks.{linked_pairs, object_numbers}
use Rattle.object_state.specs.State.{State, link, link_cmp, object, stamp_of}
use Rattle.object_state.specs.Valid.{IsValid}
use Rattle.object_state.proofs.Back.{link_exact, link_found, link_missing, link_total}
use Rattle.object_state.proofs.Keyed.{by_order, by_test}
use Rattle.object_referrers.proofs.Names.{there}
use Rattle.use_session.specs.Resetting.{removal_if, removals, removed, unlinked, unlinking_if, unlinkings_of}
use Rattle.use_session.proofs.Unlinked.{all_pass, told_by_keys, told_of_each}
use Rattle.std.proofs.lemmas.Map.Lookups.{exact_unsigned}
use Rattle.std.specs.Cmp.{nat_cmp_total}

abbrev Link : Type 0
Link = (ℕ × ℕ) × (ℕ × ℕ)

module _ (l : Layout) (s : State) (v : IsValid l s) where
  -- a link is found by its pair
  stamped : (k pair : ℕ × ℕ) → link s k ≡ Some pair → stamp_of s k.0 pair.0 pair.1 ≡ Some k.1
  stamped k pair h = by (find (λ e. nat_eq e.0.0 k.0 && nat_eq e.1.0 pair.0 && nat_eq e.1.1 pair.1) s.links) refl
    where
      by : (u : Option Link) → find (λ e. nat_eq e.0.0 k.0 && nat_eq e.1.0 pair.0 && nat_eq e.1.1 pair.1) s.links ≡ u
          → stamp_of s k.0 pair.0 pair.1 ≡ Some k.1
      by None e = absurd (link_missing s k.0 pair.0 pair.1 (ap (λ (u : Option Link). option_map (λ e. e.0.1) u) e) k h refl)
      by (Some x) e =
          let r = link_found s k.0 pair.0 pair.1 x e v.links.ordered in
          ap (λ (u : Option Link). option_map (λ e. e.0.1) u) e ∙ ap (λ (n : ℕ). Some n) (v.links.once x.0 k pair r.0 h r.1)

  pub unlinkings_told : (a : ℕ) → flat_map (λ pair. unlinking_if s a pair (stamp_of s a pair.0 pair.1)) (linked_pairs s a) ≡ unlinkings_of s a
  unlinkings_told a = told_of_each link_total link_exact (λ e. nat_eq e.0.0 a) (λ pair. unlinking_if s a pair (stamp_of s a pair.0 pair.1)) (unlinked s) s.links
      v.links.ordered
      (λ k pair f p.
      let same : k.0 ≡ a = eqb-true _ _ p in
      subst (λ b. unlinking_if s b pair (stamp_of s b pair.0 pair.1) ≡ unlinked s (k, pair) ∷ []) same
      (ap (λ (u : Option ℕ). unlinking_if s k.0 pair u) (stamped k pair f)))

  pub removals_told : flat_map (λ o. removal_if s o (object s o)) (object_numbers s) ≡ removals s
  removals_told = told_by_keys nat_cmp_total exact_unsigned (λ o. removal_if s o (object s o)) (removed s) s.objects v.objects.ordered
      (λ o x f. ap (λ (u : Option Object). removal_if s o u) f)

  -- all links are of the associations of the layout
  known : (k pair : ℕ × ℕ) → link s k ≡ Some pair → k.0 < length l.assocs
  known k pair h =
      let live = there (λ (x : Object). may_stand l k.0 First x.class) (object s pair.0) (v.joins k pair h).first in
      let ends = there (λ (x : AssocLayout). is_a l live.0.class (class_at x First)) (slice_get l.assocs k.0) live.2 in
      slice_get_within l.assocs k.0 ends.0 ends.1

  pub all_below : (n : ℕ) → n ≡ length l.assocs → filter (λ e. nat_lt e.0.0 n) s.links ≡ s.links
  all_below n e = all_pass link_total link_exact (λ e. nat_lt e.0.0 n) s.links v.links.ordered
      (λ k pair f. lt-ltb k.0 n (subst (λ m. k.0 < m) (sym e) (known k pair f)))

-- the links of the associations below a number, and those of one more
module _ (n : ℕ) where
  ordered : (a b : ℕ × ℕ) → link_cmp a b ≡ Less → a.0 ≤ b.0
  ordered a b h = by_order (nat_cmp a.0 b.0)
      (λ r. below_equal (nat_cmp_less a.0 b.0 r))
      (λ r. same_equal (exact_unsigned a.0 b.0 r))
      (λ r. absurd (greater (sym (ap (λ o. ordering_then o (nat_cmp a.1 b.1)) r) ∙ h)))
    where
      greater : Greater ≡ Less → ⊥
      greater e = cc

      below_equal : a.0 < b.0 → a.0 ≤ b.0
      below_equal l = omega arith

      same_equal : a.0 ≡ b.0 → a.0 ≤ b.0
      same_equal l = omega arith

      nat_cmp_less : (x y : ℕ) → nat_cmp x y ≡ Less → x < y
      nat_cmp_less x y e = subst (λ r. MatchOrdering r (x < y) (x ≡ y) (y < x)) e (ranks x y)

  none_before : (es : List Link) (k : ℕ × ℕ) → n ≤ k.0 → AllByRecursion (λ y. link_cmp k y ≡ Less) (keys_of es) → filter (λ e. nat_lt e.0.0 n) es ≡ []
  none_before [] k h a = refl
  none_before (e ∷ es) k h a =
      ap (λ b. cond b (e ∷ filter (λ e. nat_lt e.0.0 n) es) (filter (λ e. nat_lt e.0.0 n) es)) (le-ltb e.0.0 n (chain (ordered k e.0 a.0)))
      ∙ none_before es k h a.1
    where
      chain : k.0 ≤ e.0.0 → n ≤ e.0.0
      chain g = omega arith

  pub below_more : (es : List Link) → IsStrictlySortedBy link_cmp (keys_of es)
      → filter (λ e. nat_lt e.0.0 n) es ++ filter (λ e. nat_eq e.0.0 n) es ≡ filter (λ e. nat_lt e.0.0 (n + 1)) es
  unfolding IsStrictlySortedBy
  below_more [] s = refl
  below_more (e ∷ es) s =
      let rest = below_more es s.1 in
      by_test (nat_lt e.0.0 n)
      (λ y.
      let lt = ltb-true e.0.0 n y in
      let other : nat_eq e.0.0 n ≡ false = ne_eqb e.0.0 n (λ same. absurd (irreflexive lt same)) in
      let more : nat_lt e.0.0 (n + 1) ≡ true = lt-ltb e.0.0 (n + 1) (omega arith) in
      parts true false y other ∙ ap (λ r. e ∷ r) rest ∙ sym (whole true more))
      (λ m.
      let ge = ltb-false e.0.0 n m in
      by_test (nat_eq e.0.0 n)
      (λ y.
      let same = eqb-true e.0.0 n y in
      let more : nat_lt e.0.0 (n + 1) ≡ true = lt-ltb e.0.0 (n + 1) (omega arith) in
      let none = none_before es e.0 ge s.0 in
      parts false true m y ∙ (λ i. none i ++ e ∷ filter (λ e. nat_eq e.0.0 n) es)
      ∙ ap (λ r. e ∷ r) (sym (ap (λ r. r ++ filter (λ e. nat_eq e.0.0 n) es) none) ∙ rest)
      ∙ sym (whole true more))
      (λ o.
      let more : nat_lt e.0.0 (n + 1) ≡ false = le-ltb e.0.0 (n + 1) (above ge (eqb-false e.0.0 n o)) in
      parts false false m o ∙ rest ∙ sym (whole false more)))
    where
      irreflexive : e.0.0 < n → e.0.0 ≡ n → ⊥
      irreflexive l q = omega arith

      above : n ≤ e.0.0 → e.0.0 ≢ n → n + 1 ≤ e.0.0
      above g q = omega arith

      parts : (b c : Bool) → nat_lt e.0.0 n ≡ b → nat_eq e.0.0 n ≡ c
          → filter (λ e. nat_lt e.0.0 n) (e ∷ es) ++ filter (λ e. nat_eq e.0.0 n) (e ∷ es)
          ≡ cond b (e ∷ filter (λ e. nat_lt e.0.0 n) es) (filter (λ e. nat_lt e.0.0 n) es) ++ cond c (e ∷ filter (λ e. nat_eq e.0.0 n) es) (filter (λ e. nat_eq e.0.0 n) es)
      parts b c y z = λ i. cond (y i) (e ∷ filter (λ e. nat_lt e.0.0 n) es) (filter (λ e. nat_lt e.0.0 n) es)
          ++ cond (z i) (e ∷ filter (λ e. nat_eq e.0.0 n) es) (filter (λ e. nat_eq e.0.0 n) es)

      whole : (b : Bool) → nat_lt e.0.0 (n + 1) ≡ b
          → filter (λ e. nat_lt e.0.0 (n + 1)) (e ∷ es) ≡ cond b (e ∷ filter (λ e. nat_lt e.0.0 (n + 1)) es) (filter (λ e. nat_lt e.0.0 (n + 1)) es)
      whole b y = ap (λ b. cond b (e ∷ filter (λ e. nat_lt e.0.0 (n + 1)) es) (filter (λ e. nat_lt e.0.0 (n + 1)) es)) y

pub none_below_none : (es : List Link) → filter (λ e. nat_lt e.0.0 0) es ≡ []
none_below_none [] = refl
none_below_none (e ∷ es) =
    ap (λ b. cond b (e ∷ filter (λ e. nat_lt e.0.0 0) es) (filter (λ e. nat_lt e.0.0 0) es)) (le-ltb e.0.0 0 (none e.0.0)) ∙ none_below_none es
  where
    none : (n : ℕ) → 0 ≤ n
    none n = omega arith
