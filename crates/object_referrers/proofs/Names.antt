-- The variables that an index tells of an object are those that refer to it.
use Rattle.std.proofs.Common.{◌≡◌, ℕ, Bool, true, false, ◌&&◌, List, [], ◌∷◌, map, Option, Some, None, refl, sym, ap, ◌∙◌, true≢false}
use denote.Ref.{Bor}
use Rattle.std.specs.Cmp.Lexicographic.{nat_list_cmp_total}
use Rattle.std.specs.List.{filter}
use Rattle.std.specs.List.Sorted.{IsStrictlySortedBy}
use Rattle.std.specs.Option.{option_map_or}
use Rattle.std.specs.Ordering.{is_le}
use Rattle.std.proofs.lemmas.Map.Lookups.{exact_bytes}
use Rattle.use_orders.specs.Canon.{has}
use Rattle.use_orders.proofs.Sets.{same_sets}
use Rattle.object_references.specs.References.{refers_to}
use Rattle.object_state.specs.declared.layout.Layout.{Layout}
use Rattle.object_state.specs.declared.objects.Variable.{Variable}
use Rattle.object_state.specs.State.{State, text_cmp, variable}
use Rattle.object_state.specs.Valid.{IsValid}
use Rattle.object_state.proofs.Keyed.{by_test}
use Rattle.object_referrers.specs.Kept.{TellsAll}
use Rattle.object_referrers.specs.Places.{variable_key_cmp}
use Rattle.object_referrers.specs.Referring.{name_refers_to, variables_referring_to}
use Rattle.object_referrers.proofs.Ranged.{has_within, ranged, ranged_is, rises, within}
use Rattle.object_referrers.proofs.Referred.{chosen_rises, has_chosen}

pub told : (a b : Bool) → (a ≡ true → b ≡ true) → (a && b) ≡ a
told true b h = h refl
told false b h = refl

pub there : {V : Type 0} (W : V → Bool) (u : Option V) → option_map_or W u false ≡ true → (v : V) × (u ≡ Some v) × (W v ≡ true)
there W None h = absurd (true≢false (sym h))
there W (Some v) h = (v, refl, h)

pub empty_first : (t : List ℕ) → is_le (text_cmp [] t) ≡ true
empty_first [] = refl
empty_first (b ∷ t) = refl

pub names_told : (l : Layout) (s : State) (o : ℕ) (p : List (ℕ × (ℕ × ℕ))) (n : List (ℕ × List ℕ)) → IsValid l s → IsStrictlySortedBy variable_key_cmp n
    → TellsAll (record { layout = l; state = s }) p n
    → ranged text_cmp nat_list_cmp_total exact_bytes [] empty_first o (name_refers_to s o) n ≡ variables_referring_to s o
names_told l s o p n v up tells =
    let Q = name_refers_to s o in
    ranged_is text_cmp nat_list_cmp_total exact_bytes [] empty_first o Q n up
    ∙ same_sets nat_list_cmp_total exact_bytes (within text_cmp nat_list_cmp_total exact_bytes [] empty_first o Q n) (variables_referring_to s o)
    (rises text_cmp nat_list_cmp_total exact_bytes [] empty_first o Q n up)
    (chosen_rises nat_list_cmp_total exact_bytes (λ (w : Variable). refers_to w.value o) s.variables v.variables.ordered)
    (λ q. has_within text_cmp nat_list_cmp_total exact_bytes [] empty_first o Q n q
    ∙ told (Q q) (has variable_key_cmp n (o, q)) (λ h.
    let r = there (λ (w : Variable). refers_to w.value o) (variable s q) h in
    tells.variables o q r.0 r.1 r.2)
    ∙ sym (has_chosen nat_list_cmp_total exact_bytes (λ (w : Variable). refers_to w.value o) s.variables v.variables.ordered q))

-- the second parts of those that pass
filter_second : {P : Type 0} (Q : P → Bool) (ks : List (ℕ × P)) → filter Q (map (λ k. k.1) ks) ≡ map (λ k. k.1) (filter (λ k. Q k.1) ks)
filter_second Q [] = refl
filter_second Q (k ∷ ks) = by_test (Q k.1) (λ y. rw y (ap (λ l. k.1 ∷ l) (filter_second Q ks))) (λ n. rw n (filter_second Q ks))

seconds : {P : Type 0} (ks : List (Bor (ℕ × P))) → map (λ k. k.now.1) ks ≡ map (λ k. k.1) (map (λ k. k.now) ks)
seconds [] = refl
seconds (k ∷ ks) = ap (λ l. k.now.1 ∷ l) (seconds ks)

pub named : {P : Type 0} (Q : P → Bool) (xs : List (Bor (ℕ × P))) (ks : List (ℕ × P)) → map (λ k. k.now) xs ≡ ks
    → filter Q (map (λ k. k.now.1) xs) ≡ map (λ k. k.1) (filter (λ k. Q k.1) ks)
named Q xs ks h = ap (filter Q) (seconds xs ∙ ap (map (λ k. k.1)) h) ∙ filter_second Q ks
