-- The keys of slots, slot by slot, and the order of keys.
use Rattle.std.proofs.Common.{◌≡◌, ℕ, ◌≤◌, zero, suc, min, List, [], ◌∷◌, drop, length, refl, arith}
use Rattle.std.specs.Cmp.{IsTotalOrder, nat_cmp_total}
use Rattle.std.specs.Cmp.Lexicographic.{nat_list_cmp_total}
use Rattle.std.proofs.lemmas.Cmp.{on_total, then_total}
use Rattle.std.proofs.lemmas.Map.Lookups.{CmpEqualImpliesEq, exact_bytes, exact_pairs, exact_unsigned}
use Rattle.ocl_values.specs.declared.value.Value.{Value}
use Rattle.object_state.specs.State.{link_cmp, text_cmp}
use Rattle.object_state.proofs.Back.{link_exact, link_total}
use Rattle.object_referrers.specs.Places.{slot_key_cmp, slots_keys, variable_key_cmp}
use Rattle.std.specs.Ordering.{nat_cmp}

pub slot_key_total : IsTotalOrder slot_key_cmp
slot_key_total = then_total (on_total (λ (t : ℕ × (ℕ × ℕ)). t.0) nat_cmp_total) (on_total (λ (t : ℕ × (ℕ × ℕ)). t.1) link_total)

pub slot_key_exact : CmpEqualImpliesEq slot_key_cmp
slot_key_exact = exact_pairs nat_cmp link_cmp exact_unsigned link_exact

pub variable_key_total : IsTotalOrder variable_key_cmp
variable_key_total = then_total (on_total (λ (t : ℕ × List ℕ). t.0) nat_cmp_total) (on_total (λ (t : ℕ × List ℕ). t.1) nat_list_cmp_total)

pub variable_key_exact : CmpEqualImpliesEq variable_key_cmp
variable_key_exact = exact_pairs nat_cmp text_cmp exact_unsigned exact_bytes

no_value : (x : ℕ) (attrs : List ℕ) → slots_keys x attrs [] ≡ []
no_value x [] = refl
no_value x (a ∷ attrs) = refl

-- no slot is left
pub no_slot : (x i : ℕ) (attrs : List ℕ) (values : List Value) → min (length attrs) (length values) ≤ i → slots_keys x (drop i attrs) (drop i values) ≡ []
no_slot x zero [] values h = refl
no_slot x (suc i) [] values h = refl
no_slot x zero (a ∷ attrs) [] h = refl
no_slot x (suc i) (a ∷ attrs) [] h = no_value x (drop i attrs)
no_slot x zero (a ∷ attrs) (v ∷ values) h = absurd (omega (arith, h))
no_slot x (suc i) (a ∷ attrs) (v ∷ values) h = no_slot x i attrs values (omega (arith, h))
