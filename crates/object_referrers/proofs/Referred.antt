-- The places of a state that refer to an object are those that its index tells.
use Rattle.std.proofs.Common.{◌≡◌, ℕ, Bool, true, false, ◌&&◌, ◌||◌, cond, List, [], ◌∷◌, ◌++◌, map, Option, Some, None, refl, sym, ap, ap₂, ◌∙◌, Ordering, Less, is_eq, true≢false}
use Rattle.std.specs.BTreeMap.{is_at}
use Rattle.std.specs.Cmp.{IsTotalOrder, nat_cmp_total}
use Rattle.std.specs.Cmp.Lexicographic.{nat_list_cmp_total}
use Rattle.std.specs.List.{AllByRecursion, filter, flat_map, list_any}
use Rattle.std.specs.List.Sorted.{IsStrictlySortedBy}
use Rattle.std.specs.Map.{keys_of, lookup}
use Rattle.std.specs.Option.{option_map_or}
use Rattle.std.proofs.lemmas.Map.Lookups.{CmpEqualImpliesEq}
use Rattle.use_orders.specs.Canon.{has}
use Rattle.object_state.proofs.Keyed.{by_test, equal}
use Rattle.object_store.proofs.Listed.{none_below}

module _ {K V : Type 0} {R : K → K → Ordering} (total : IsTotalOrder R) (exact : CmpEqualImpliesEq R) (W : V → Bool) where
  abbrev pub chosen : List (K × V) → List K
  chosen es = map (λ e. e.0) (filter (λ e. W e.1) es)

  -- a key is chosen exactly where its value passes
  pub has_chosen : (es : List (K × V)) → IsStrictlySortedBy R (keys_of es) → (q : K) → has R (chosen es) q ≡ option_map_or W (lookup (is_at (R q)) es) false
  unfolding IsStrictlySortedBy
  has_chosen [] s q = refl
  has_chosen (e ∷ es) s q = by_test (is_at (R q) e.0)
      (λ y. by_test (W e.1)
      (λ w. rw (w, y, w) refl)
      (λ w. ap (λ b. has R (map (λ e. e.0) (cond b (e ∷ filter (λ e. W e.1) es) (filter (λ e. W e.1) es))) q) w ∙ has_chosen es s.1 q
      ∙ ap (λ (u : Option V). option_map_or W u false) (ap (λ (z : K). lookup (is_at (R z)) es) (exact q e.0 (equal _ y)) ∙ none_below total es e.0 s.0)
      ∙ sym (ap (λ b. option_map_or W (cond b (Some e.1) (lookup (is_at (R q)) es)) false) y ∙ w)))
      (λ n. by_test (W e.1)
      (λ w. rw (w, n) (has_chosen es s.1 q))
      (λ w. rw (w, n) (has_chosen es s.1 q)))

  all_chosen : (k : K) (es : List (K × V)) → AllByRecursion (λ y. R k y ≡ Less) (keys_of es) → AllByRecursion (λ y. R k y ≡ Less) (chosen es)
  all_chosen k [] all = tt
  all_chosen k (e ∷ es) all = by_test (W e.1) (λ w. rw w (all.0, all_chosen k es all.1)) (λ w. rw w (all_chosen k es all.1))

  pub chosen_rises : (es : List (K × V)) → IsStrictlySortedBy R (keys_of es) → IsStrictlySortedBy R (chosen es)
  unfolding IsStrictlySortedBy
  chosen_rises [] s = tt
  chosen_rises (e ∷ es) s = by_test (W e.1) (λ w. rw w (all_chosen e.0 es s.0, chosen_rises es s.1)) (λ w. rw w (chosen_rises es s.1))
