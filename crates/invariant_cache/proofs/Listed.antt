-- The counts that are listed are the multiplicities that a state breaks.
use Rattle.std.proofs.Common.{◌≡◌, ℕ, ◌+◌, ◌<◌, ◌≤◌, zero, suc, Bool, true, false, cond, ◌&&◌, ◌||◌, List, [], ◌∷◌, ◌++◌, length, map, Option, Some, None, refl, sym, ap, ap₂, ◌∙◌, subst, true≢false, arith, Ordering, Less, Equal, is_eq}
use Rattle.std.specs.BTreeMap.{BTreeMap, IsOrdered, is_at}
use Rattle.std.specs.Cmp.{nat_cmp_total}
use Rattle.std.specs.List.{All, AllByRecursion, filter, cons_option, filter_map, flat_map, list_any, range_with_len}
use Rattle.std.specs.List.Sorted.{IsStrictlySortedBy}
use Rattle.std.specs.Map.{keys_of, lookup}
use Rattle.std.specs.Option.{option_and_then, option_map, option_map_or}
use Rattle.std.specs.Ordering.{nat_cmp, ordering_then}
use Rattle.std.specs.Prelude.{nat_eq, nat_lt}
use Rattle.std.proofs.lemmas.Bool.{eq-eqb, eqb-true, lt-ltb, ltb-true, ltb-false}
use Rattle.std.proofs.lemmas.Cmp.{tied_itself}
use Rattle.std.proofs.lemmas.List.{length-map}
use Rattle.std.proofs.lemmas.List.Elements.{All-from_recursion}
use Rattle.std.proofs.lemmas.List.Folds.{list_any-append}
use Rattle.std.proofs.lemmas.Map.Lookups.{exact_unsigned}
use Rattle.ocl_values.specs.declared.value.Value.TheVariants.{Obj}
use Rattle.class_model.specs.contracts.numbers.EndOrd.TheImpl.{ghosts as end_ghosts}
use Rattle.class_model.specs.declared.numbers.End.{End}
use Rattle.class_model.specs.declared.numbers.End.TheVariants.{First, Second}
use Rattle.class_model.specs.declared.object_model.ObjectModel.{ObjectModel}
use Rattle.class_model.specs.Ends.{opposite}
use Rattle.class_model.specs.Parts.{end_class}
use Rattle.object_state.specs.declared.objects.Object.{Object}
use Rattle.object_state.specs.Layouts.{is_a, layout_of, may_stand}
use Rattle.object_state.specs.Looks.{extent, joined, stands}
use Rattle.object_state.specs.State.{State, object}
use Rattle.object_state.specs.Valid.{IsValid}
use Rattle.object_state.proofs.Hits.{nat_same, same_end}
use Rattle.object_state.proofs.Keyed.{by_test, equal}
use Rattle.invariant_cache.specs.declared.structure.Violation.{Violation}
use Rattle.invariant_cache.specs.Broken.{Navigation, broken, navigations, navigations_to, unless_allowed, violation_at}
use Rattle.invariant_cache.specs.Counts.{Counts, StandsFor, found, navigation_cmp}
use Rattle.invariant_cache.proofs.Entries.{same_entries}
use Rattle.invariant_cache.proofs.Modelled.{class_count, same_is_a, starts}
use Rattle.invariant_cache.proofs.Navigations.{at_parts, by_navigation, navigation_exact, navigation_total}

-- lists that rise
module _ {K : Type 0} where
  weaker : (P Q : K → Type 0) (xs : List K) → AllByRecursion P xs → ((x : K) → P x → Q x) → AllByRecursion Q xs
  weaker P Q [] a h = tt
  weaker P Q (x ∷ xs) a h = (h x a.0, weaker P Q xs a.1 h)

  all_append : (P : K → Type 0) (xs ys : List K) → AllByRecursion P xs → AllByRecursion P ys → AllByRecursion P (xs ++ ys)
  all_append P [] ys a b = b
  all_append P (x ∷ xs) ys a b = (a.0, all_append P xs ys a.1 b)

  -- one behind the other, where all of the one are below all of the other
  rises : (R : K → K → Ordering) (P Q : K → Type 0) (xs ys : List K) → IsStrictlySortedBy R xs → IsStrictlySortedBy R ys → AllByRecursion P xs
      → AllByRecursion Q ys → ((x y : K) → P x → Q y → R x y ≡ Less) → IsStrictlySortedBy R (xs ++ ys)
  unfolding IsStrictlySortedBy
  rises R P Q [] ys s t a b h = t
  rises R P Q (x ∷ xs) ys s t a b h =
      (all_append (λ y. R x y ≡ Less) xs ys s.0 (weaker Q (λ y. R x y ≡ Less) ys b (λ y q. h x y a.0 q)), rises R P Q xs ys s.1 t a.1 b h)

module _ {X : Type 0} (p : X → Bool) where
  keys_kept : (P : ℕ → Type 0) (es : List (ℕ × X)) → AllByRecursion P (keys_of es) → AllByRecursion P (map (λ e. e.0) (filter (λ e. p e.1) es))
  keys_kept P [] a = tt
  keys_kept P (e ∷ es) a = by_test (p e.1) (λ y. rw y (a.0, keys_kept P es a.1)) (λ n. rw n (keys_kept P es a.1))

  -- the keys of a selection
  keys_rise : (es : List (ℕ × X)) → IsStrictlySortedBy nat_cmp (keys_of es) → IsStrictlySortedBy nat_cmp (map (λ e. e.0) (filter (λ e. p e.1) es))
  unfolding IsStrictlySortedBy
  keys_rise [] s = tt
  keys_rise (e ∷ es) s = by_test (p e.1) (λ y. rw y (keys_kept (λ k. nat_cmp e.0 k ≡ Less) es s.0, keys_rise es s.1)) (λ n. rw n (keys_rise es s.1))

  below_all : (es : List (ℕ × X)) (o : ℕ) → AllByRecursion (λ k. nat_cmp o k ≡ Less) (keys_of es) → lookup (is_at (nat_cmp o)) es ≡ None
  below_all [] o a = refl
  below_all (e ∷ es) o a = rw (a.0) (below_all es o a.1)

  abbrev kept : List (ℕ × X) → List ℕ
  kept es = map (λ e. e.0) (filter (λ e. p e.1) es)

  abbrev at_key : List (ℕ × X) → ℕ → Bool
  at_key es o = option_map_or p (lookup (is_at (nat_cmp o)) es) false

  here : (e : ℕ × X) (es : List (ℕ × X)) (o : ℕ) → AllByRecursion (λ k. nat_cmp e.0 k ≡ Less) (keys_of es) → list_any (nat_eq o) (kept es) ≡ at_key es o
      → is_at (nat_cmp o) e.0 ≡ true → list_any (nat_eq o) (kept (e ∷ es)) ≡ at_key (e ∷ es) o
  here e es o below ih y =
      let same : o ≡ e.0 = exact_unsigned o e.0 (equal _ y) in
      by_test (p e.1)
      (λ q. rw (q, y) (ap (λ b. b || list_any (nat_eq o) (kept es)) (eq-eqb o e.0 same) ∙ sym q))
      (λ q. rw (q, y) (ih ∙ ap (λ u. option_map_or p u false) (ap (λ (k : ℕ). lookup (is_at (nat_cmp k)) es) same ∙ below_all es e.0 below) ∙ sym q))

  there : (e : ℕ × X) (es : List (ℕ × X)) (o : ℕ) → list_any (nat_eq o) (kept es) ≡ at_key es o → is_at (nat_cmp o) e.0 ≡ false
      → list_any (nat_eq o) (kept (e ∷ es)) ≡ at_key (e ∷ es) o
  there e es o ih n = by_test (p e.1)
      (λ q. rw (q, n) (ap (λ b. b || list_any (nat_eq o) (kept es)) (sym (nat_same o e.0) ∙ n) ∙ ih))
      (λ q. rw (q, n) ih)

  -- whether a key is in a selection
  in_keys : (es : List (ℕ × X)) (o : ℕ) → IsStrictlySortedBy nat_cmp (keys_of es) → list_any (nat_eq o) (kept es) ≡ at_key es o
  unfolding IsStrictlySortedBy
  in_keys [] o s = refl
  in_keys (e ∷ es) o s = by_test (is_at (nat_cmp o) e.0) (here e es o s.0 (in_keys es o s.1)) (there e es o (in_keys es o s.1))

rising_none : IsStrictlySortedBy navigation_cmp []
unfolding IsStrictlySortedBy
rising_none = tt

-- to one end
same_ends : (e : End) → end_ghosts.cmp e e ≡ Equal
same_ends First = refl
same_ends Second = refl

module _ (a : ℕ) (e : End) where
  abbrev to : ℕ → Navigation
  to o = (a, (e, o))

  to_less : (o p : ℕ) → nat_cmp o p ≡ Less → navigation_cmp (to o) (to p) ≡ Less
  to_less o p h = ap (λ r. ordering_then r (ordering_then (end_ghosts.cmp e e) (nat_cmp o p))) (tied_itself nat_cmp_total a)
      ∙ ap (λ r. ordering_then r (nat_cmp o p)) (same_ends e) ∙ h

  all_to_less : (o : ℕ) (os : List ℕ) → AllByRecursion (λ p. nat_cmp o p ≡ Less) os → AllByRecursion (λ n. navigation_cmp (to o) n ≡ Less) (map to os)
  all_to_less o [] b = tt
  all_to_less o (p ∷ os) b = (to_less o p b.0, all_to_less o os b.1)

  to_rise : (os : List ℕ) → IsStrictlySortedBy nat_cmp os → IsStrictlySortedBy navigation_cmp (map to os)
  unfolding IsStrictlySortedBy
  to_rise [] s = tt
  to_rise (o ∷ os) s = (all_to_less o os s.0, to_rise os s.1)

  all_to : (os : List ℕ) → AllByRecursion (λ (n : Navigation). (n.0 ≡ a) × (n.1.0 ≡ e)) (map to os)
  all_to [] = tt
  all_to (o ∷ os) = ((refl, refl), all_to os)

  gathered : (x y c d : Bool) → ((x && y && c) || (x && y && d)) ≡ (x && y && (c || d))
  gathered true true c d = refl
  gathered true false c d = refl
  gathered false y c d = refl

  nowhere : (x y : Bool) → (x && y && false) ≡ false
  nowhere true true = refl
  nowhere true false = refl
  nowhere false y = refl

  in_to : (os : List ℕ) (n : Navigation) → list_any (is_at (navigation_cmp n)) (map to os) ≡ (nat_eq n.0 a && same_end n.1.0 e && list_any (nat_eq n.1.1) os)
  in_to [] n = sym (nowhere (nat_eq n.0 a) (same_end n.1.0 e))
  in_to (o ∷ os) n = ap₂ (λ x y. x || y) (at_parts n (to o)) (in_to os n)
      ∙ gathered (nat_eq n.0 a) (same_end n.1.0 e) (nat_eq n.1.1 o) (list_any (nat_eq n.1.1) os)

-- of one association after the other
module _ (f : ℕ → List Navigation) (block : (a : ℕ) → IsStrictlySortedBy navigation_cmp (f a)) (here : (a : ℕ) → AllByRecursion (λ n. n.0 ≡ a) (f a)) where
  abbrev blocks : ℕ → ℕ → List Navigation
  blocks a k = flat_map f (range_with_len a k)

  from : (a k : ℕ) → AllByRecursion (λ n. a ≤ n.0) (blocks a k)
  from a zero = tt
  from a (suc k) = all_append (λ n. a ≤ n.0) (f a) (blocks (a + 1) k) (weaker (λ n. n.0 ≡ a) (λ n. a ≤ n.0) (f a) (here a) (λ n e. omega arith))
      (weaker (λ n. a + 1 ≤ n.0) (λ n. a ≤ n.0) (blocks (a + 1) k) (from (a + 1) k) (λ n l. omega arith))

  under : (a k : ℕ) → AllByRecursion (λ n. n.0 < a + k) (blocks a k)
  under a zero = tt
  under a (suc k) = all_append (λ n. n.0 < a + suc k) (f a) (blocks (a + 1) k) (weaker (λ n. n.0 ≡ a) (λ n. n.0 < a + suc k) (f a) (here a) (λ n e. omega arith))
      (weaker (λ n. n.0 < (a + 1) + k) (λ n. n.0 < a + suc k) (blocks (a + 1) k) (under (a + 1) k) (λ n l. omega arith))

  number_less : (a b : ℕ) → a < b → nat_cmp a b ≡ Less
  number_less a b h = rw (lt-ltb a b h) refl

  later : (a : ℕ) (x y : Navigation) → x.0 ≡ a → a + 1 ≤ y.0 → navigation_cmp x y ≡ Less
  later a x y e l = ap (λ r. ordering_then r (ordering_then (end_ghosts.cmp x.1.0 y.1.0) (nat_cmp x.1.1 y.1.1))) (number_less x.0 y.0 (omega arith))

  blocks_rise : (a k : ℕ) → IsStrictlySortedBy navigation_cmp (blocks a k)
  blocks_rise a zero = rising_none
  blocks_rise a (suc k) = rises navigation_cmp (λ n. n.0 ≡ a) (λ n. a + 1 ≤ n.0) (f a) (blocks (a + 1) k) (block a) (blocks_rise (a + 1) k) (here a)
      (from (a + 1) k) (later a)

  module _ (n : Navigation) (g : ℕ → Bool) (is : (a : ℕ) → list_any (is_at (navigation_cmp n)) (f a) ≡ (nat_eq n.0 a && g a)) where
    more : (a k : ℕ) → list_any (is_at (navigation_cmp n)) (blocks a (suc k))
        ≡ ((nat_eq n.0 a && g a) || list_any (is_at (navigation_cmp n)) (blocks (a + 1) k))
    more a k = list_any-append (is_at (navigation_cmp n)) (f a) (blocks (a + 1) k) ∙ ap (λ b. b || list_any (is_at (navigation_cmp n)) (blocks (a + 1) k)) (is a)

    apart : (a : ℕ) → n.0 < a → nat_eq n.0 a ≡ false
    apart a h = by_test (nat_eq n.0 a) (λ y. let same = eqb-true n.0 a y in absurd (omega arith)) (λ m. m)

    past : (a : ℕ) → a < n.0 → nat_eq n.0 a ≡ false
    past a h = by_test (nat_eq n.0 a) (λ y. let same = eqb-true n.0 a y in absurd (omega arith)) (λ m. m)

    before : (a k : ℕ) → n.0 < a → list_any (is_at (navigation_cmp n)) (blocks a k) ≡ false
    before a zero h = refl
    before a (suc k) h = more a k ∙ ap (λ b. (b && g a) || list_any (is_at (navigation_cmp n)) (blocks (a + 1) k)) (apart a h) ∙ before (a + 1) k (omega arith)

    behind : (a k : ℕ) → a + k ≤ n.0 → list_any (is_at (navigation_cmp n)) (blocks a k) ≡ false
    behind a zero h = refl
    behind a (suc k) h = more a k ∙ ap (λ b. (b && g a) || list_any (is_at (navigation_cmp n)) (blocks (a + 1) k)) (past a (omega arith))
        ∙ behind (a + 1) k (omega arith)

    within : (a k : ℕ) → a ≤ n.0 → n.0 < a + k → list_any (is_at (navigation_cmp n)) (blocks a k) ≡ g n.0
    within a zero l h = absurd (omega arith)
    within a (suc k) l h = by_test (nat_eq n.0 a)
        (λ y. let same : n.0 ≡ a = eqb-true n.0 a y in
        more a k ∙ ap₂ (λ b c. (b && g a) || c) y (before (a + 1) k (omega arith)) ∙ or_false (g a) ∙ ap g (sym same))
        (λ m. more a k ∙ ap (λ b. (b && g a) || list_any (is_at (navigation_cmp n)) (blocks (a + 1) k)) m ∙ within (a + 1) k (next a l m) (omega arith))
      where
        or_false : (b : Bool) → (b || false) ≡ b
        or_false true = refl
        or_false false = refl

        next : (a : ℕ) → a ≤ n.0 → nat_eq n.0 a ≡ false → a + 1 ≤ n.0
        next a l m = by_test (nat_lt a n.0) (λ y. let k = ltb-true a n.0 y in omega arith)
            (λ q. let k = ltb-false a n.0 q in let same : n.0 ≡ a = omega arith in absurd (true≢false (sym (eq-eqb n.0 a same) ∙ m)))

-- what is found of each
module _ (h : Navigation → Option ℕ) where
  abbrev entry : Navigation → Option (Navigation × ℕ)
  entry n = option_map (λ count. (n, count)) (h n)

  -- no entry, or one in front
  by_entry : (P : List (Navigation × ℕ) → Type 0) (n : Navigation) (rest : List (Navigation × ℕ)) → (h n ≡ None → P rest)
      → ((c : ℕ) → h n ≡ Some c → P ((n, c) ∷ rest)) → P (cons_option (entry n) rest)
  by_entry P n rest f g = by (h n) f g
    where
      by : (u : Option ℕ) → (u ≡ None → P rest) → ((c : ℕ) → u ≡ Some c → P ((n, c) ∷ rest)) → P (cons_option (option_map (λ count. (n, count)) u) rest)
      by None f g = f refl
      by (Some c) f g = g c refl

  all_entries : (P : Navigation → Type 0) (ns : List Navigation) → AllByRecursion P ns → AllByRecursion P (keys_of (filter_map entry ns))
  all_entries P [] a = tt
  all_entries P (n ∷ ns) a = by_entry (λ es. AllByRecursion P (keys_of es)) n (filter_map entry ns) (λ e. all_entries P ns a.1)
      (λ c e. (a.0, all_entries P ns a.1))

  entries_rise : (ns : List Navigation) → IsStrictlySortedBy navigation_cmp ns → IsStrictlySortedBy navigation_cmp (keys_of (filter_map entry ns))
  unfolding IsStrictlySortedBy
  entries_rise [] s = tt
  entries_rise (n ∷ ns) s = by_entry (λ es. IsStrictlySortedBy navigation_cmp (keys_of es)) n (filter_map entry ns) (λ e. entries_rise ns s.1)
      (λ c e. (all_entries (λ k. navigation_cmp n k ≡ Less) ns s.0, entries_rise ns s.1))

  at_same : (q n : Navigation) → q ≡ n → is_at (navigation_cmp q) n ≡ true
  at_same q n e = ap (λ k. is_at (navigation_cmp q) k) (sym e) ∙ ap is_eq (tied_itself navigation_total q)

  either : (q : Navigation) (b : Bool) → h q ≡ None → cond b (h q) None ≡ h q
  either q true e = refl
  either q false e = sym e

  entry_found : (ns : List Navigation) (q : Navigation) → found (filter_map entry ns) q ≡ cond (list_any (is_at (navigation_cmp q)) ns) (h q) None
  entry_found [] q = refl
  entry_found (n ∷ ns) q = by_entry (λ es. found es q ≡ cond (list_any (is_at (navigation_cmp q)) (n ∷ ns)) (h q) None) n (filter_map entry ns)
      (λ none. entry_found ns q ∙ by_navigation q n
      (λ e. either q (list_any (is_at (navigation_cmp q)) ns) (ap h e ∙ none) ∙ rw (at_same q n e) refl)
      (λ m. rw m refl))
      (λ c some. by_navigation q n
      (λ e. rw (at_same q n e) (sym (ap h e ∙ some)))
      (λ m. rw m (entry_found ns q)))

module _ (m : ObjectModel) (s : State) (v : IsValid (layout_of m) s) where
  abbrev both_ends : ℕ → List Navigation
  both_ends a = navigations_to m s a First ++ navigations_to m s a Second

  abbrev starting : ℕ → End → List ℕ
  starting a e = extent (layout_of m) s (end_class m a (opposite e))

  objects_rise : (c : ℕ) → IsStrictlySortedBy nat_cmp (extent (layout_of m) s c)
  objects_rise c = keys_rise (λ (x : Object). is_a (layout_of m) x.class c) s.objects v.objects.ordered

  first_less : (a : ℕ) (x y : Navigation) → (x.0 ≡ a) × (x.1.0 ≡ First) → (y.0 ≡ a) × (y.1.0 ≡ Second) → navigation_cmp x y ≡ Less
  first_less a x y p q =
      ap (λ r. ordering_then r (ordering_then (end_ghosts.cmp x.1.0 y.1.0) (nat_cmp x.1.1 y.1.1)))
      (ap (λ k. nat_cmp x.0 k) (q.0 ∙ sym p.0) ∙ tied_itself nat_cmp_total x.0)
      ∙ ap₂ (λ e f. ordering_then (end_ghosts.cmp e f) (nat_cmp x.1.1 y.1.1)) p.1 q.1

  ends_rise : (a : ℕ) → IsStrictlySortedBy navigation_cmp (both_ends a)
  ends_rise a = rises navigation_cmp (λ n. (n.0 ≡ a) × (n.1.0 ≡ First)) (λ n. (n.0 ≡ a) × (n.1.0 ≡ Second)) (navigations_to m s a First)
      (navigations_to m s a Second)
      (to_rise a First (starting a First) (objects_rise (end_class m a (opposite First))))
      (to_rise a Second (starting a Second) (objects_rise (end_class m a (opposite Second))))
      (all_to a First (starting a First)) (all_to a Second (starting a Second)) (first_less a)

  ends_here : (a : ℕ) → AllByRecursion (λ n. n.0 ≡ a) (both_ends a)
  ends_here a = all_append (λ n. n.0 ≡ a) (navigations_to m s a First) (navigations_to m s a Second)
      (weaker (λ n. (n.0 ≡ a) × (n.1.0 ≡ First)) (λ n. n.0 ≡ a) (navigations_to m s a First) (all_to a First (starting a First)) (λ n e. e.0))
      (weaker (λ n. (n.0 ≡ a) × (n.1.0 ≡ Second)) (λ n. n.0 ≡ a) (navigations_to m s a Second) (all_to a Second (starting a Second)) (λ n e. e.0))

  -- whether a navigation is one of the state
  abbrev begins : Navigation → ℕ → Bool
  begins n a = list_any (nat_eq n.1.1) (starting a n.1.0)

  left : (x : Bool) (b c : Bool) → ((x && true && b) || (x && false && c)) ≡ (x && b)
  left true true c = refl
  left true false c = refl
  left false b c = refl

  right : (x : Bool) (b c : Bool) → ((x && false && b) || (x && true && c)) ≡ (x && c)
  right true b c = refl
  right false b c = refl

  in_ends : (n : Navigation) (a : ℕ) → list_any (is_at (navigation_cmp n)) (both_ends a) ≡ (nat_eq n.0 a && begins n a)
  in_ends (i, (e, o)) a =
      list_any-append (is_at (navigation_cmp (i, (e, o)))) (navigations_to m s a First) (navigations_to m s a Second)
      ∙ ap₂ (λ x y. x || y) (in_to a First (starting a First) (i, (e, o))) (in_to a Second (starting a Second) (i, (e, o)))
      ∙ by e
    where
      by : (e : End) → ((nat_eq i a && same_end e First && list_any (nat_eq o) (starting a First))
          || (nat_eq i a && same_end e Second && list_any (nat_eq o) (starting a Second)))
          ≡ (nat_eq i a && list_any (nat_eq o) (starting a e))
      by First = left (nat_eq i a) (list_any (nat_eq o) (starting a First)) (list_any (nat_eq o) (starting a Second))
      by Second = right (nat_eq i a) (list_any (nat_eq o) (starting a First)) (list_any (nat_eq o) (starting a Second))

  -- an object may stand where a navigation starts
  begins_live : (a o : ℕ) (e : End) (u : Option Object) → object s o ≡ u
      → (nat_lt a (length m.assocs) && option_map_or (λ (x : Object). is_a (layout_of m) x.class (end_class m a (opposite e))) u false)
      ≡ option_map_or (λ (x : Object). may_stand (layout_of m) a (opposite e) x.class) u false
  begins_live a o e None q = no (nat_lt a (length m.assocs))
    where
      no : (b : Bool) → (b && false) ≡ false
      no true = refl
      no false = refl
  begins_live a o e (Some x) q =
      let known : x.class < length m.classes = subst (λ (n : ℕ). x.class < n) (class_count m) (v.objects.instances o x q).known in
      ap (λ b. nat_lt a (length m.assocs) && b) (same_is_a m x.class (end_class m a (opposite e)) known)
      ∙ sym (starts m a x.class e o known)

  in_state : (n : Navigation) → list_any (is_at (navigation_cmp n)) (navigations m s) ≡ stands (layout_of m) s n.0 (opposite n.1.0) n.1.1
  in_state n = by_test (nat_lt n.0 (length m.assocs))
      (λ y. within both_ends ends_rise ends_here n (begins n) (in_ends n) 0 (length m.assocs) (omega arith) (let l = ltb-true n.0 (length m.assocs) y in omega arith)
      ∙ in_keys (λ (x : Object). is_a (layout_of m) x.class (end_class m n.0 (opposite n.1.0))) s.objects n.1.1 v.objects.ordered
      ∙ sym (ap (λ b. b && option_map_or (λ (x : Object). is_a (layout_of m) x.class (end_class m n.0 (opposite n.1.0))) (object s n.1.1) false) y)
      ∙ begins_live n.0 n.1.1 n.1.0 (object s n.1.1) refl)
      (λ f. behind both_ends ends_rise ends_here n (begins n) (in_ends n) 0 (length m.assocs) (let l = ltb-false n.0 (length m.assocs) f in omega arith)
      ∙ sym (ap (λ b. b && option_map_or (λ (x : Object). is_a (layout_of m) x.class (end_class m n.0 (opposite n.1.0))) (object s n.1.1) false) f)
      ∙ begins_live n.0 n.1.1 n.1.0 (object s n.1.1) refl)

  -- how many objects are seen, if so many are not allowed
  abbrev disallowed : Navigation → Option ℕ
  disallowed n = unless_allowed m n (length (joined s n.0 n.1.0 n.1.1))

  listed : (n : Navigation) (b : Bool) → option_and_then (unless_allowed m n) (option_map (λ vs. length vs) (cond b (Some (map Obj (joined s n.0 n.1.0 n.1.1))) None))
      ≡ cond b (disallowed n) None
  listed n true = ap (unless_allowed m n) (length-map (joined s n.0 n.1.0 n.1.1) Obj)
  listed n false = refl

  pub broken_entries : (k : Counts) (entries : BTreeMap Navigation ℕ) → StandsFor m k s → entries.entries ≡ k.broken → IsOrdered navigation_cmp entries
      → map (λ e. violation_at e.0 e.1) k.broken ≡ broken m s
  broken_entries k entries told same ordered =
      ap (map (λ e. violation_at e.0 e.1)) (sym same ∙ same_entries navigation_total navigation_exact entries.entries (filter_map (entry disallowed)
      (navigations m s)) ordered (entries_rise disallowed (navigations m s) (blocks_rise both_ends ends_rise ends_here 0 (length m.assocs)))
      (λ q. ap (λ es. found es q) same ∙ told.broken q ∙ ap (option_and_then (unless_allowed m q)) (told.counts q)
      ∙ listed q (stands (layout_of m) s q.0 (opposite q.1.0) q.1.1) ∙ ap (λ b. cond b (disallowed q) None) (sym (in_state q)) ∙ sym (entry_found disallowed (navigations m s) q)))

  -- of associations of the model
  all_told : (k : ℕ) (es : List (Navigation × ℕ)) → AllByRecursion (λ n. n.0 < k) (keys_of es)
      → AllByRecursion (λ (x : Violation). x.assoc < k) (map (λ e. violation_at e.0 e.1) es)
  all_told k [] a = tt
  all_told k (e ∷ es) a = (a.0, all_told k es a.1)

  pub broken_known : All (λ (x : Violation). x.assoc < length m.assocs) (broken m s)
  broken_known = All-from_recursion (λ (x : Violation). x.assoc < length m.assocs) (broken m s)
      (all_told (length m.assocs) (filter_map (entry disallowed) (navigations m s))
      (all_entries disallowed (λ n. n.0 < length m.assocs) (navigations m s)
      (weaker (λ n. n.0 < 0 + length m.assocs) (λ n. n.0 < length m.assocs) (navigations m s) (under both_ends ends_rise ends_here 0 (length m.assocs))
      (λ n l. omega arith))))
