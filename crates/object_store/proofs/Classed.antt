-- Objects, and an index of those of each class.
use Rattle.std.proofs.Common.{◌≡◌, ◌≢◌, ℕ, ◌&&◌, Bool, true, false, cond, List, [], ◌∷◌, map, Option, Some, None, refl, sym, ap, ◌∙◌}
use Rattle.std.proofs.Common.{subst, true≢false, is_eq, Ordering}
use Rattle.std.specs.BTreeMap.{insert_entry, is_at}
use Rattle.std.specs.Cmp.{IsTotalOrder, nat_cmp_total}
use Rattle.std.specs.List.{filter, list_any}
use Rattle.std.specs.List.Sorted.{IsStrictlySortedBy}
use Rattle.std.specs.Map.{keys_of, lookup, remove_entry, set_value}
use Rattle.std.specs.Option.{option_and_then, option_map_or}
use Rattle.std.specs.Ordering.{nat_cmp}
use Rattle.std.specs.Prelude.{nat_eq}
use Rattle.std.proofs.lemmas.Bool.{eqb-true}
use Rattle.std.proofs.lemmas.Cmp.{tied_itself}
use Rattle.std.proofs.lemmas.Map.Lookups.{CmpEqualImpliesEq, exact_unsigned}
use Rattle.object_state.specs.State.{link_cmp}
use Rattle.object_store.specs.Indexes.{has_pair, is_one}
use Rattle.object_store.proofs.Grouped.{lookup_selected, selected, sorted_selected}
use Rattle.object_state.proofs.Keyed.{by_test, equal, found_remove, gone_remove, kept_remove, kept_set, lookup_insert, lookup_set_here, put_insert}
use Rattle.object_state.proofs.Back.{link_exact, link_total}
use Rattle.object_store.proofs.Links.{at_assoc, up_assoc}
use Rattle.object_store.proofs.Listed.{bare, bare_filter, bare_keys, bare_lookup, same_entries, same_filter}

either : (b : Bool) → (b ≡ true → ⊥) → b ≡ false
either true h = absurd (h refl)
either false h = refl

apart_false : (o p : ℕ) → o ≢ p → nat_eq o p ≡ false
apart_false o p h = either (nat_eq o p) (λ e. h (eqb-true o p e))

and_false : (b : Bool) → (b && false) ≡ false
and_false true = refl
and_false false = refl

-- what is found at another key than the one that goes
module _ {K X : Type 0} {R : K → K → Ordering} (o : IsTotalOrder R) (exact : CmpEqualImpliesEq R) where
  pub other_remove : (es : List (K × X)) (k q : K) → IsStrictlySortedBy R (keys_of es) → q ≢ k
      → lookup (is_at (R q)) (remove_entry (is_at (R k)) es) ≡ lookup (is_at (R q)) es
  other_remove es k q up apart = by (lookup (is_at (R q)) es) (lookup (is_at (R q)) (remove_entry (is_at (R k)) es)) refl refl
    where
      by : (u v : Option X) → lookup (is_at (R q)) es ≡ u → lookup (is_at (R q)) (remove_entry (is_at (R k)) es) ≡ v → v ≡ u
      by u (Some x) e f = sym (found_remove o exact es k q x up f).0 ∙ e
      by (Some x) None e f = sym f ∙ kept_remove o exact es k q x up apart e
      by None None e f = refl

module _ {X : Type 0} (is_in : X → ℕ → Bool) where
  abbrev pub Classed : List (ℕ × X) → List (ℕ × ℕ) → Type 0
  Classed objects pairs = (c o : ℕ) → has_pair pairs c o ≡ option_map_or (λ x. is_in x c) (lookup (is_at (nat_cmp o)) objects) false

  -- objects whose pairs are the same
  pub classed_same : (objects : List (ℕ × X)) (old new : List (ℕ × ℕ)) (classes : List ℕ) (o0 : ℕ)
      → ((c o : ℕ) → is_one classes o0 c o ≡ false → has_pair new c o ≡ has_pair old c o)
      → ((c : ℕ) → list_any (nat_eq c) classes ≡ true → has_pair new c o0 ≡ false)
      → lookup (is_at (nat_cmp o0)) objects ≡ None → Classed objects old → Classed objects new
  classed_same objects old new classes o0 others gone free tied c o =
      by_test (is_one classes o0 c o)
      (λ y. here (nat_eq o o0) (list_any (nat_eq c) classes) refl refl y)
      (λ n. others c o n ∙ tied c o)
    where
      here : (a b : Bool) → nat_eq o o0 ≡ a → list_any (nat_eq c) classes ≡ b → is_one classes o0 c o ≡ true
          → has_pair new c o ≡ option_map_or (λ x. is_in x c) (lookup (is_at (nat_cmp o)) objects) false
      here true true e f y = let same : o ≡ o0 = eqb-true o o0 e in
          ap (λ p. has_pair new c p) same ∙ gone c f ∙ sym (ap (λ u. option_map_or (λ (x : X). is_in x c) u false) (ap (λ p. lookup (is_at
          (nat_cmp p)) objects) same ∙ free))
      here true false e f y = absurd (true≢false (sym y ∙ (λ i. e i && f i)))
      here false b e f y = absurd (true≢false (sym y ∙ (λ i. e i && f i)))

  module _ (objects : List (ℕ × X)) (old new : List (ℕ × ℕ)) (tied : Classed objects old) (o0 : ℕ) (x0 : X) (classes : List ℕ)
      (is : (c : ℕ) → is_in x0 c ≡ list_any (nat_eq c) classes)
      (others : (c o : ℕ) → is_one classes o0 c o ≡ false → has_pair new c o ≡ has_pair old c o) where
    other : (c o : ℕ) → o ≢ o0 → is_one classes o0 c o ≡ false
    other c o h = ap (λ a. a && list_any (nat_eq c) classes) (apart_false o o0 h)

    not_one : (c : ℕ) → list_any (nat_eq c) classes ≡ false → is_one classes o0 c o0 ≡ false
    not_one c h = ap (λ b. nat_eq o0 o0 && b) h ∙ and_false (nat_eq o0 o0)

    differ : (o : ℕ) → is_at (nat_cmp o) o0 ≡ false → o ≢ o0
    differ o n e = true≢false (sym (ap is_eq (tied_itself nat_cmp_total o)) ∙ ap (λ p. is_at (nat_cmp o) p) e ∙ n)

    pub classed_more : ((c : ℕ) → list_any (nat_eq c) classes ≡ true → has_pair new c o0 ≡ true) → lookup (is_at (nat_cmp o0)) objects ≡ None
        → Classed (insert_entry nat_cmp objects o0 x0) new
    classed_more there free c o = by_test (is_at (nat_cmp o) o0)
        (λ y. let same : o ≡ o0 = exact_unsigned o o0 (equal _ y) in
        ap (λ p. has_pair new c p) same ∙ here (list_any (nat_eq c) classes) refl ∙ sym (is c)
        ∙ sym (ap (λ u. option_map_or (λ (x : X). is_in x c) u false) (ap (λ p. lookup (is_at (nat_cmp p)) (insert_entry nat_cmp objects o0 x0)) same
        ∙ put_insert nat_cmp_total exact_unsigned objects o0 x0)))
        (λ n. others c o (other c o (differ o n)) ∙ tied c o
        ∙ sym (ap (λ u. option_map_or (λ (x : X). is_in x c) u false) (lookup_insert nat_cmp_total objects o0 x0 o
        ∙ ap (λ b. cond b (Some x0) (lookup (is_at (nat_cmp o)) objects)) n)))
      where
        here : (b : Bool) → list_any (nat_eq c) classes ≡ b → has_pair new c o0 ≡ list_any (nat_eq c) classes
        here true e = there c e ∙ sym e
        here false e = others c o0 (not_one c e) ∙ tied c o0 ∙ ap (λ u. option_map_or (λ (x : X). is_in x c) u false) free ∙ sym e

    pub classed_less : ((c : ℕ) → list_any (nat_eq c) classes ≡ true → has_pair new c o0 ≡ false) → IsStrictlySortedBy nat_cmp (keys_of objects)
        → lookup (is_at (nat_cmp o0)) objects ≡ Some x0 → Classed (remove_entry (is_at (nat_cmp o0)) objects) new
    classed_less gone up at c o = by_test (is_at (nat_cmp o) o0)
        (λ y. let same : o ≡ o0 = exact_unsigned o o0 (equal _ y) in
        ap (λ p. has_pair new c p) same ∙ here (list_any (nat_eq c) classes) refl
        ∙ sym (ap (λ u. option_map_or (λ (x : X). is_in x c) u false) (ap (λ p. lookup (is_at (nat_cmp p)) (remove_entry (is_at (nat_cmp o0)) objects)) same
        ∙ gone_remove nat_cmp_total exact_unsigned objects o0 up)))
        (λ n. others c o (other c o (differ o n)) ∙ tied c o
        ∙ sym (ap (λ u. option_map_or (λ (x : X). is_in x c) u false) (stays o (differ o n))))
      where
        here : (b : Bool) → list_any (nat_eq c) classes ≡ b → has_pair new c o0 ≡ false
        here true e = gone c e
        here false e = others c o0 (not_one c e) ∙ tied c o0 ∙ ap (λ u. option_map_or (λ (x : X). is_in x c) u false) at ∙ is c ∙ e

        stays : (p : ℕ) → p ≢ o0 → lookup (is_at (nat_cmp p)) (remove_entry (is_at (nat_cmp o0)) objects) ≡ lookup (is_at (nat_cmp p)) objects
        stays p h = other_remove nat_cmp_total exact_unsigned objects o0 p up h

  pub classed_set : (objects : List (ℕ × X)) (pairs : List (ℕ × ℕ)) → Classed objects pairs → (o0 : ℕ) (x0 x1 : X) → ((c : ℕ) → is_in x1 c ≡ is_in x0 c)
      → lookup (is_at (nat_cmp o0)) objects ≡ Some x0 → Classed (set_value (is_at (nat_cmp o0)) objects x1) pairs
  classed_set objects pairs tied o0 x0 x1 same at c o = tied c o ∙ sym (by_test (is_at (nat_cmp o0) o)
      (λ y. let here : o0 ≡ o = exact_unsigned o0 o (equal _ y) in
      subst (λ (p : ℕ). option_map_or (λ (x : X). is_in x c) (lookup (is_at (nat_cmp p)) (set_value (is_at (nat_cmp o0)) objects x1)) false
      ≡ option_map_or (λ (x : X). is_in x c) (lookup (is_at (nat_cmp p)) objects) false) here
      (ap (λ u. option_map_or (λ (x : X). is_in x c) u false) (lookup_set_here (is_at (nat_cmp o0)) objects x0 x1 at) ∙ same c
      ∙ sym (ap (λ u. option_map_or (λ (x : X). is_in x c) u false) at)))
      (λ z. ap (λ u. option_map_or (λ (x : X). is_in x c) u false) (kept_set nat_cmp_total exact_unsigned objects o0 x1 x0 o at
      (λ e. true≢false (sym (ap is_eq (tied_itself nat_cmp_total o0)) ∙ ap (λ p. is_at (nat_cmp o0) p) (sym e) ∙ z)))))

  -- the objects of a class, from the pairs that have it
  module _ (objects : List (ℕ × X)) (pairs : List (ℕ × ℕ)) (tied : Classed objects pairs) (up : IsStrictlySortedBy nat_cmp (keys_of objects))
      (pairs_up : IsStrictlySortedBy link_cmp pairs) (c : ℕ) where
    bare_up : IsStrictlySortedBy link_cmp (keys_of (bare pairs))
    bare_up = subst (λ (ks : List (ℕ × ℕ)). IsStrictlySortedBy link_cmp ks) (sym (bare_keys pairs)) pairs_up

    found_same : (n : ℕ) (u : Option X) → lookup (is_at (nat_cmp n)) objects ≡ u
        → option_and_then {U = ℕ} (λ (v : ℕ). cond true (Some 0) None) (lookup (is_at (link_cmp (c, n))) (bare pairs))
        ≡ option_and_then {U = ℕ} (λ x. cond (is_in x c) (Some 0) None) u
    found_same n u e =
        ap (λ w. option_and_then {U = ℕ} (λ (v : ℕ). cond true (Some 0) None) w) (bare_lookup (is_at (link_cmp (c, n))) pairs)
        ∙ ap (λ b. option_and_then {U = ℕ} (λ (v : ℕ). cond true (Some 0) None) (cond b (Some 0) None))
        (tied c n ∙ ap (λ w. option_map_or (λ (x : X). is_in x c) w false) e)
        ∙ by u
      where
        one : (b : Bool) → option_and_then {U = ℕ} (λ (v : ℕ). cond true (Some 0) None) (cond b (Some 0) None) ≡ cond b (Some 0) None
        one true = refl
        one false = refl

        by : (w : Option X) → option_and_then {U = ℕ} (λ (v : ℕ). cond true (Some 0) None) (cond (option_map_or (λ x. is_in x c) w false) (Some 0) None)
            ≡ option_and_then {U = ℕ} (λ x. cond (is_in x c) (Some 0) None) w
        by None = refl
        by (Some x) = one (is_in x c)

    same_objects : selected {W = ℕ} link_total link_exact (λ k. k.1) (λ n. (c, n)) (λ k. nat_eq k.0 c) (λ (v : ℕ). true) (λ (v : ℕ). 0) (bare pairs)
        ≡ selected {W = ℕ} nat_cmp_total exact_unsigned (λ k. k) (λ n. n) (λ k. true) (λ x. is_in x c) (λ x. 0) objects
    same_objects = same_entries nat_cmp_total exact_unsigned _ _
        (sorted_selected {W = ℕ} link_total link_exact (λ k. k.1) (λ n. (c, n)) (λ k. nat_eq k.0 c) (λ (v : ℕ). true) (λ (v : ℕ). 0) (up_assoc c)
        (bare pairs) bare_up)
        (sorted_selected {W = ℕ} nat_cmp_total exact_unsigned (λ k. k) (λ n. n) (λ k. true) (λ x. is_in x c) (λ x. 0) (λ k m x y l. l) objects up)
        (λ n. lookup_selected {W = ℕ} link_total link_exact (λ k. k.1) (λ n. (c, n)) (λ k. nat_eq k.0 c) (λ (v : ℕ). true) (λ (v : ℕ). 0) (at_assoc c)
        (bare pairs) n
        bare_up
        ∙ found_same n (lookup (is_at (nat_cmp n)) objects) refl
        ∙ sym (lookup_selected {W = ℕ} nat_cmp_total exact_unsigned (λ k. k) (λ n. n) (λ k. true) (λ x. is_in x c) (λ x. 0) (λ n k. refl) objects n up))

    and_true : (b : Bool) → b ≡ (b && true)
    and_true true = refl
    and_true false = refl

    of_class : bare (filter (λ k. nat_eq k.0 c) pairs) ≡ filter (λ e. nat_eq e.0.0 c && true) (bare pairs)
    of_class = sym (bare_filter (λ k. nat_eq k.0 c) pairs)
        ∙ same_filter link_total link_exact (λ e. nat_eq e.0.0 c) (λ e. nat_eq e.0.0 c && true) (bare pairs) bare_up (λ k v e. and_true (nat_eq k.0 c))

    spread : {C : Type 0} (h : ℕ → C) (ks : List (ℕ × ℕ)) → map (λ (k : ℕ × ℕ). h k.1) ks ≡ map (λ (e : ℕ × ℕ). h e.0) (map (λ e. (e.0.1, 0)) (bare ks))
    spread h [] = refl
    spread h (k ∷ ks) = ap (λ l. h k.1 ∷ l) (spread h ks)

    gather : {C : Type 0} (h : ℕ → C) (es : List (ℕ × X)) → map (λ (e : ℕ × ℕ). h e.0) (map (λ e. (e.0, 0)) es) ≡ map h (map (λ e. e.0) es)
    gather h [] = refl
    gather h (e ∷ es) = ap (λ l. h e.0 ∷ l) (gather h es)

    pub class_in_row : {C : Type 0} (h : ℕ → C)
        → map (λ (k : ℕ × ℕ). h k.1) (filter (λ k. nat_eq k.0 c) pairs)
        ≡ map h (map (λ (e : ℕ × X). e.0) (filter (λ e. is_in e.1 c) objects))
    class_in_row h =
        spread h (filter (λ k. nat_eq k.0 c) pairs)
        ∙ ap (λ (l : List ((ℕ × ℕ) × ℕ)). map (λ (e : ℕ × ℕ). h e.0) (map (λ e. (e.0.1, 0)) l)) of_class
        ∙ ap (λ (l : List (ℕ × ℕ)). map (λ (e : ℕ × ℕ). h e.0) l) same_objects
        ∙ gather h (filter (λ e. is_in e.1 c) objects)
