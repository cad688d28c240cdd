-- Cells and looks: only equal ones tie, and what a store holds is of the form of its cell.
use Rattle.std.proofs.Common.{◌≡◌, ◌⊎◌, inl, inr, ℕ, true, List, [], ◌∷◌, Option, Some, None, refl, ap, ap₂, Ordering, Less, Equal, Greater}
use Rattle.std.specs.FinMap.{IsAntisymmetric, nat_cmp-IsAntisymmetric}
use Rattle.std.specs.Ordering.{nat_cmp, ordering_then}
use Rattle.ocl_values.specs.declared.value.Value.{Value}
use Rattle.ocl_values.specs.Order.{value_cmp}
use Rattle.ocl_values.proofs.Exact.{equal_exact}
use Rattle.class_model.specs.declared.numbers.End.{End}
use Rattle.class_model.specs.declared.numbers.End.TheVariants.{First, Second}
use Rattle.class_model.specs.contracts.numbers.EndOrd.TheImpl.{ghosts as end_ghosts}
use Rattle.object_state.specs.declared.cell.Cell.{Cell}
use Rattle.object_state.specs.declared.cell.Cell.TheVariants.{Kind, Slot, Nav, Extent}
use Rattle.object_state.specs.declared.cell.Look.{Look}
use Rattle.object_state.specs.declared.cell.Look.TheVariants as L
use Rattle.object_state.specs.declared.layout.Layout.{Layout}
use Rattle.object_state.specs.Looks.{class_look, class_of, items_at, items_look, look, value_look, value_of}
use Rattle.object_state.specs.State.{State}
use Rattle.object_state.specs.Touched.{cell_cmp}
use Rattle.object_state.specs.Valid.{IsValid}
use Rattle.object_state.proofs.Kept.{by_number}
use Rattle.object_state.proofs.Seen.{well}
use Rattle.entry_states.specs.Overlays.{CanHold, has_form_of, is_class_look, is_items_look, is_value_look}

then_equal : (p q : Ordering) → ordering_then p q ≡ Equal → (p ≡ Equal) × (q ≡ Equal)
then_equal Less q h = cc
then_equal Equal q h = (refl, h)
then_equal Greater q h = cc

end_exact : (e f : End) → end_ghosts.cmp e f ≡ Equal → e ≡ f
end_exact First First h = refl
end_exact First Second h = cc
end_exact Second First h = cc
end_exact Second Second h = refl

pub cell_exact : IsAntisymmetric cell_cmp
cell_exact (Kind p) (Kind o) h = ap Kind (nat_cmp-IsAntisymmetric p o h)
cell_exact (Slot p b) (Slot o a) h =
    let both = then_equal (nat_cmp p o) (nat_cmp b a) h in
    ap₂ Slot (nat_cmp-IsAntisymmetric p o both.0) (nat_cmp-IsAntisymmetric b a both.1)
cell_exact (Nav a e p) (Nav b f o) h =
    let one = then_equal (nat_cmp a b) (ordering_then (end_ghosts.cmp e f) (nat_cmp p o)) h in
    let two = then_equal (end_ghosts.cmp e f) (nat_cmp p o) one.1 in
    λ i. Nav (nat_cmp-IsAntisymmetric a b one.0 i) (end_exact e f two.0 i) (nat_cmp-IsAntisymmetric p o two.1 i)
cell_exact (Extent c) (Extent d) h = ap Extent (nat_cmp-IsAntisymmetric c d h)
cell_exact _ _ h = cc

-- what a valid state has at a cell, the cell can hold
class_form : (u : Option ℕ) → is_class_look (class_look u) ≡ true
class_form None = refl
class_form (Some c) = refl

value_form : (u : Option Value) → is_value_look (value_look u) ≡ true
value_form None = refl
value_form (Some v) = refl

items_form : (u : Option (List Value)) → is_items_look (items_look u) ≡ true
items_form None = refl
items_form (Some vs) = refl

form_of : (l : Layout) (s : State) (x : Cell) → has_form_of x (look l s x) ≡ true
form_of l s (Kind o) = class_form (class_of s o)
form_of l s (Slot o a) = value_form (value_of l s o a)
form_of l s (Nav a e o) = items_form (items_at l s a e o)
form_of l s (Extent c) = refl

pub held_can_be : (l : Layout) (s : State) (x : Cell) → IsValid l s → CanHold x (look l s x)
held_can_be l s x v = record { form = form_of l s x; well_made = well l s x v }

-- two looks are one or not
pub value_known : (u v : Value) → (u ≡ v) ⊎ (¬ (u ≡ v))
value_known u v = by_case (value_cmp u v) refl
  where
    by_case : (r : Ordering) → r ≡ value_cmp u v → (u ≡ v) ⊎ (¬ (u ≡ v))
    by_case Equal e = inl ((equal_exact Equal u v e).0 refl)
    by_case Less e = inr (λ h. less ((equal_exact Less u v e).1 h))
      where
        less : Less ≡ Equal → ⊥
        less h = cc
    by_case Greater e = inr (λ h. greater ((equal_exact Greater u v e).1 h))
      where
        greater : Greater ≡ Equal → ⊥
        greater h = cc

same_values : (us vs : List Value) → (us ≡ vs) ⊎ (¬ (us ≡ vs))
same_values [] [] = inl refl
same_values [] (v ∷ vs) = inr (λ h. apart v vs h)
  where
    apart : (v : Value) (vs : List Value) → [] ≡ v ∷ vs → ⊥
    apart v vs h = cc
same_values (u ∷ us) [] = inr (λ h. apart u us h)
  where
    apart : (u : Value) (us : List Value) → u ∷ us ≡ [] → ⊥
    apart u us h = cc
same_values (u ∷ us) (v ∷ vs) = both (value_known u v) (same_values us vs)
  where
    heads : u ∷ us ≡ v ∷ vs → u ≡ v
    heads h = cc

    tails : u ∷ us ≡ v ∷ vs → us ≡ vs
    tails h = cc

    both : (u ≡ v) ⊎ (¬ (u ≡ v)) → (us ≡ vs) ⊎ (¬ (us ≡ vs)) → (u ∷ us ≡ v ∷ vs) ⊎ (¬ (u ∷ us ≡ v ∷ vs))
    both (inl e) (inl d) = inl (ap₂ (λ x xs. x ∷ xs) e d)
    both (inl e) (inr n) = inr (λ h. n (tails h))
    both (inr n) d = inr (λ h. n (heads h))

-- what is not refuted of two looks holds
settled : {P : Type 0} → P ⊎ (¬ P) → ¬ (¬ P) → P
settled (inl p) h = p
settled (inr n) h = absurd (h n)

pub same_look : (a b : Look) → ¬ (¬ (a ≡ b)) → a ≡ b
same_look L.Absent L.Absent h = refl
same_look (L.Class c) (L.Class d) h = ap L.Class (settled (number c d) (λ n. h (λ e. n (inside c d e))))
  where
    inside : (c d : ℕ) → L.Class c ≡ L.Class d → c ≡ d
    inside c d e = cc

    number : (c d : ℕ) → (c ≡ d) ⊎ (¬ (c ≡ d))
    number c d = by_number c d inl inr
same_look (L.Value u) (L.Value v) h = ap L.Value (settled (value_known u v) (λ n. h (λ e. n (inside u v e))))
  where
    inside : (u v : Value) → L.Value u ≡ L.Value v → u ≡ v
    inside u v e = cc
same_look (L.Items us) (L.Items vs) h = ap L.Items (settled (same_values us vs) (λ n. h (λ e. n (inside us vs e))))
  where
    inside : (us vs : List Value) → L.Items us ≡ L.Items vs → us ≡ vs
    inside us vs e = cc
same_look _ _ h = absurd (h (λ e. cc))
