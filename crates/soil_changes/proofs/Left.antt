-- The links of an object that are left once the first of them went, and changes that leave links alone.
use Rattle.std.proofs.Common.{◌≡◌, ℕ, Bool, true, false, cond, List, [], ◌∷◌, Option, Some, None, refl, sym, ap, ◌∙◌, is_eq, true≢false}
use Rattle.std.specs.BTreeMap.{is_at}
use Rattle.std.specs.List.{filter}
use Rattle.std.specs.List.Sorted.{IsStrictlySortedBy}
use Rattle.std.specs.Map.{keys_of, lookup, remove_entry}
use Rattle.std.specs.Option.{option_map_or}
use Rattle.std.proofs.lemmas.Cmp.{tied_itself}
use Rattle.ocl_values.specs.declared.value.Value.{Value}
use Rattle.object_state.specs.declared.change.Change.TheVariants.{SetSlot}
use Rattle.object_state.specs.declared.layout.Layout.{Layout}
use Rattle.object_state.specs.declared.objects.Object.{Object}
use Rattle.object_state.specs.Changes.{apply, with_object, with_slot}
use Rattle.object_state.specs.State.{State, link_cmp, object}
use Rattle.object_state.proofs.Back.{inside_some, link_exact, link_total}
use Rattle.object_state.proofs.Keyed.{by_test, equal, some≢none}
use Rattle.object_store.proofs.Listed.{none_below}

abbrev Link : Type 0
Link = (ℕ × ℕ) × (ℕ × ℕ)

module _ (Q : Link → Bool) where
  abbrev kept : Link → List Link → Bool → List Link
  kept x xs b = cond b (x ∷ filter Q xs) (filter Q xs)

  heads : {X : Type 0} {x y : X} {xs ys : List X} → (x ∷ xs) ≡ (y ∷ ys) → (x ≡ y) × (xs ≡ ys)
  heads e = (cc, cc)

  differ : (e x : Link) (xs : List Link) → IsStrictlySortedBy link_cmp (keys_of (x ∷ xs)) → lookup (is_at (link_cmp e.0)) xs ≡ Some e.1
      → is_at (link_cmp e.0) x.0 ≡ false
  unfolding IsStrictlySortedBy
  differ e x xs s h = by_test (is_at (link_cmp e.0) x.0)
      (λ y. absurd (some≢none e.1 (sym h ∙ ap (λ (z : ℕ × ℕ). lookup (is_at (link_cmp z)) xs) (link_exact e.0 x.0 (equal _ y)) ∙ none_below link_total xs x.0 s.0)))
      (λ n. n)

  -- it is there, and the others are what is left without it
  pub first_left : (es : List Link) (e : Link) (rest : List Link) → IsStrictlySortedBy link_cmp (keys_of es) → filter Q es ≡ e ∷ rest
      → (lookup (is_at (link_cmp e.0)) es ≡ Some e.1) × (filter Q (remove_entry (is_at (link_cmp e.0)) es) ≡ rest)
  unfolding IsStrictlySortedBy
  first_left [] e rest s h = absurd (none h)
    where
      none : {X : Type 0} {x : X} {xs : List X} → [] ≡ (x ∷ xs) → ⊥
      none e = cc
  first_left (x ∷ xs) e rest s h = by_test (Q x)
      (λ y.
      let r = heads (sym (ap (kept x xs) y) ∙ h) in
      let here : is_at (link_cmp e.0) x.0 ≡ true = ap (λ (z : Link). is_at (link_cmp z.0) x.0) (sym r.0) ∙ ap is_eq (tied_itself link_total x.0) in (
        ap (λ b. cond b (Some x.1) (lookup (is_at (link_cmp e.0)) xs)) here ∙ ap (λ (z : Link). Some z.1) r.0,
        ap (λ b. filter Q (cond b xs (x ∷ remove_entry (is_at (link_cmp e.0)) xs))) here ∙ r.1,
      ))
      (λ n.
      let r = first_left xs e rest s.1 (sym (ap (kept x xs) n) ∙ h) in
      let apart = differ e x xs s r.0 in (
        ap (λ b. cond b (Some x.1) (lookup (is_at (link_cmp e.0)) xs)) apart ∙ r.0,
        ap (λ b. filter Q (cond b xs (x ∷ remove_entry (is_at (link_cmp e.0)) xs))) apart
            ∙ ap (kept x (remove_entry (is_at (link_cmp e.0)) xs)) n ∙ r.1,
      ))

-- another value of an attribute leaves the links
pub set_links : (l : Layout) (s : State) (o a : ℕ) (old new : Value) → (apply l s (SetSlot o a old new)).links ≡ s.links
set_links l s o a old new = by (object s o)
  where
    by : (u : Option Object) → (option_map_or (λ x. with_object s o (with_slot l x a new)) u s).links ≡ s.links
    by None = refl
    by (Some x) = refl
