-- An index tells of all that the state after a change refers to, once it tells what the change brings and forgets what it leaves.
use Rattle.std.proofs.Common.{◌≡◌, ◌≢◌, ◌⊎◌, inl, inr, ℕ, Bool, true, false, List, Option, Some, None, refl, sym, ap, ◌∙◌, subst, true≢false, is_eq}
use Rattle.std.specs.BTreeMap.{is_at}
use Rattle.std.specs.Cmp.{nat_cmp_total}
use Rattle.std.specs.Cmp.Lexicographic.{nat_list_cmp_total}
use Rattle.std.specs.List.{slice_get}
use Rattle.std.specs.Option.{option_and_then, option_map_or}
use Rattle.std.specs.Ordering.{nat_cmp}
use Rattle.std.specs.Prelude.{nat_eq}
use Rattle.std.proofs.lemmas.Bool.{eq-eqb, eqb-true}
use Rattle.std.proofs.lemmas.Cmp.{tied_itself}
use Rattle.std.proofs.lemmas.List.Quantifiers.{position-Some}
use Rattle.std.proofs.lemmas.Map.Lookups.{exact_bytes, exact_unsigned}
use Rattle.use_orders.specs.Canon.{has}
use Rattle.ocl_values.specs.declared.value.Value.{Value}
use Rattle.object_references.specs.References.{refers_to}
use Rattle.object_state.specs.declared.change.Change.{Change}
use Rattle.object_state.specs.declared.change.Change.TheVariants.{Create, Remove, SetSlot, Link, Unlink, Bind, Unbind}
use Rattle.object_state.specs.declared.layout.Layout.{Layout}
use Rattle.object_state.specs.declared.objects.Object.{Object}
use Rattle.object_state.specs.declared.objects.Variable.{Variable}
use Rattle.object_state.specs.Changes.{apply, object_of, with_object, with_slot}
use Rattle.object_state.specs.Faults.{Fits, SettingAgrees}
use Rattle.object_state.specs.Layouts.{attrs, place, slot}
use Rattle.object_state.specs.State.{State, object, text_cmp, variable}
use Rattle.object_state.specs.Valid.{IsValid}
use Rattle.object_state.proofs.Back.{apply_set, faultless, inside_some, live, other_number}
use Rattle.object_state.proofs.Keyed.{by_test, equal, found_insert, found_remove, kept_set, lookup_set_here, put_insert, some≢none}
use Rattle.object_referrers.specs.Kept.{TellsAll}
use Rattle.object_referrers.specs.Places.{Forgets, TellsMore, held_keys, slot_key_cmp, slot_keys, slots_brought, slots_keys, slots_left, variable_key_cmp, variable_keys, variables_brought, variables_left}
use Rattle.object_referrers.specs.Referring.{slot_refers_to}
use Rattle.object_referrers.proofs.Keyed.{slot_key_total, variable_key_total}
use Rattle.object_referrers.proofs.Placed.{held_place, key_place, key_there, name_place, name_there, slots_place, slots_there, stays_new, stays_other}
use Rattle.object_referrers.proofs.Slots.{slot_kept, slot_set}

pub referred : (o : ℕ) (u : Option Value) → option_map_or (λ v. refers_to v o) u false ≡ true → (v : Value) × (u ≡ Some v) × (refers_to v o ≡ true)
referred o None h = absurd (true≢false (sym h))
referred o (Some v) h = (v, refl, h)

pub placed : (values : List Value) (p : Option ℕ) (v : Value) → option_and_then (slice_get values) p ≡ Some v → (i : ℕ) × (p ≡ Some i) × (slice_get values i ≡ Some v)
placed values None v h = absurd (some≢none v (sym h))
placed values (Some i) v h = (i, refl, h)

out : (b : Bool) → (b ≡ true → ⊥) → b ≡ false
out true h = absurd (h refl)
out false h = refl

module _ (l : Layout) (s : State) where
  abbrev Before : ℕ → ℕ → ℕ → Type 0
  Before o x a = (y : Object) × (object s x ≡ Some y) × (slot_refers_to l y o a ≡ true)

  abbrev From : Change → ℕ → ℕ → ℕ → Type 0
  From c o x a = ((has slot_key_cmp (slots_brought l c) (o, (x, a)) ≡ true) ⊎ Before o x a) × (has slot_key_cmp (slots_left l c) (o, (x, a)) ≡ false)

  all_there : (x o a : ℕ) (y : Object) → slot_refers_to l y o a ≡ true → has slot_key_cmp (slots_keys x (attrs l y.class) y.slots) (o, (x, a)) ≡ true
  all_there x o a y h =
      let r = referred o (slot l y a) h in
      let p = placed y.slots (place l y.class a) r.0 r.1 in
      let q = position-Some (nat_eq a) (attrs l y.class) p.0 0 p.1 in
      slots_there x a o p.0 (attrs l y.class) y.slots r.0 q.0 q.1 p.2 r.2

  slots_from : (c : Change) → IsValid l s → Fits l s c → (o x a : ℕ) (y : Object) → object (apply l s c) x ≡ Some y → slot_refers_to l y o a ≡ true → From c o x a
  slots_from (Create d) v f o x a y e h = (by (found_insert nat_cmp_total exact_unsigned s.objects d.object (object_of d) x y e), refl)
    where
      by : ((x ≡ d.object) × (object_of d ≡ y)) ⊎ (object s x ≡ Some y) → (has slot_key_cmp (slots_brought l (Create d)) (o, (x, a)) ≡ true) ⊎ Before o x a
      by (inl p) = inl (ap (λ (z : ℕ). has slot_key_cmp (slots_keys d.object (attrs l d.class) d.slots) (o, (z, a))) p.0
          ∙ all_there d.object o a (object_of d) (ap (λ (z : Object). slot_refers_to l z o a) p.1 ∙ h))
      by (inr e) = inr (y, e, h)
  slots_from (Remove d) v f o x a y e h =
      let r = found_remove nat_cmp_total exact_unsigned s.objects d.object x y v.objects.ordered e in
      (inr (y, r.0, h), out _ (λ t. r.1 (slots_place d.object (attrs l d.class) d.slots o (x, a) t)))
  slots_from (SetSlot x0 a0 old new) v f o x a y e h =
      by_test (nat_eq x x0)
      (λ t. here (eqb-true x x0 t))
      (λ n.
      let apart : x ≢ x0 = other_number x x0 n in (
        inr (y, sym (kept_set nat_cmp_total exact_unsigned s.objects x0 x' k.0 x k.1 apart) ∙ e', h),
        stays_other slot_key_total (slot_keys x0 a0 old) (slot_keys x0 a0 new) (o, (x, a)) (out _ (λ t. apart (ap (λ (z : ℕ × ℕ). z.0) (key_place x0 a0 old o (x, a) t)))),
      ))
    where
      g : SettingAgrees l s x0 a0 old new
      g = f.agrees

      k : (z : Object) × (object s x0 ≡ Some z)
      k = live (object s x0) (faultless l s (SetSlot x0 a0 old new) f.faultless).live

      x' : Object
      x' = with_slot l k.0 a0 new

      e' : object (with_object s x0 x') x ≡ Some y
      e' = sym (ap (λ (t : State). object t x) (apply_set l s x0 a0 old new k.0 k.1)) ∙ e

      here : x ≡ x0 → From (SetSlot x0 a0 old new) o x a
      here same =
          let put : object (with_object s x0 x') x0 ≡ Some x' = lookup_set_here (is_at (nat_cmp x0)) s.objects k.0 x' k.1 in
          let is : x' ≡ y = inside_some x' y (sym put ∙ sym (ap (λ (z : ℕ). object (with_object s x0 x') z) same) ∙ e') in
          let told : slot_refers_to l x' o a ≡ true = ap (λ (z : Object). slot_refers_to l z o a) is ∙ h in
          by_test (nat_eq a a0)
          (λ t.
          let attr : a ≡ a0 = eqb-true a a0 t in
          let value : slot l x' a ≡ Some new = ap (λ (z : ℕ). slot l x' z) attr ∙ slot_set l k.0 a0 old new (g.same k.0 k.1) in
          let refers : refers_to new o ≡ true = sym (ap (λ (u : Option Value). option_map_or (λ v. refers_to v o) u false) value) ∙ told in
          let there : has slot_key_cmp (slot_keys x0 a0 new) (o, (x, a)) ≡ true =
          (λ i. has slot_key_cmp (slot_keys x0 a0 new) (o, (same i, attr i))) ∙ key_there x0 a0 new o refers in
          (inl there, stays_new slot_key_total (slot_keys x0 a0 old) (slot_keys x0 a0 new) (o, (x, a)) there))
          (λ n.
          let apart : a ≢ a0 = other_number a a0 n in
          let before : slot_refers_to l k.0 o a ≡ true =
          sym (ap (λ (u : Option Value). option_map_or (λ v. refers_to v o) u false) (slot_kept l k.0 a0 a new apart)) ∙ told in (
            inr (k.0, ap (λ (z : ℕ). object s z) same ∙ k.1, before),
            stays_other slot_key_total (slot_keys x0 a0 old) (slot_keys x0 a0 new) (o, (x, a)) (out _ (λ t. apart (ap (λ (z : ℕ × ℕ). z.1) (key_place x0 a0 old o (x, a) t)))),
          ))
  slots_from (Link d) v f o x a y e h = (inr (y, e, h), refl)
  slots_from (Unlink d) v f o x a y e h = (inr (y, e, h), refl)
  slots_from (Bind name old new) v f o x a y e h = (inr (y, e, h), refl)
  slots_from (Unbind name old) v f o x a y e h = (inr (y, e, h), refl)

  abbrev NameBefore : ℕ → List ℕ → Type 0
  NameBefore o name = (w : Variable) × (variable s name ≡ Some w) × (refers_to w.value o ≡ true)

  abbrev NameFrom : Change → ℕ → List ℕ → Type 0
  NameFrom c o name = ((has variable_key_cmp (variables_brought c) (o, name) ≡ true) ⊎ NameBefore o name)
      × (has variable_key_cmp (variables_left c) (o, name) ≡ false)

  names_from : (c : Change) → IsValid l s → Fits l s c → (o : ℕ) (name : List ℕ) (w : Variable) → variable (apply l s c) name ≡ Some w → refers_to w.value o ≡ true
      → NameFrom c o name
  names_from (Create d) v f o name w e h = (inr (w, e, h), refl)
  names_from (Remove d) v f o name w e h = (inr (w, e, h), refl)
  names_from (SetSlot x a old new) v f o name w e h = by (object s x) e
    where
      by : (u : Option Object) → variable (option_map_or (λ (z : Object). with_object s x (with_slot l z a new)) u s) name ≡ Some w
          → NameFrom (SetSlot x a old new) o name
      by None e = (inr (w, e, h), refl)
      by (Some z) e = (inr (w, e, h), refl)
  names_from (Link d) v f o name w e h = (inr (w, e, h), refl)
  names_from (Unlink d) v f o name w e h = (inr (w, e, h), refl)
  names_from (Bind n old new) v f o name w e h = by (found_insert nat_list_cmp_total exact_bytes s.variables n new name w e)
    where
      here : name ≡ n → new ≡ w → NameFrom (Bind n old new) o name
      here same is =
          let there : has variable_key_cmp (variable_keys n new.value) (o, name) ≡ true =
          ap (λ (z : List ℕ). has variable_key_cmp (variable_keys n new.value) (o, z)) same
          ∙ name_there n new.value o (ap (λ (z : Variable). refers_to z.value o) is ∙ h) in
          (inl there, stays_new variable_key_total (held_keys n old) (variable_keys n new.value) (o, name) there)

      differ : is_at (text_cmp name) n ≡ false → name ≡ n → ⊥
      differ other same = true≢false (sym (ap is_eq (tied_itself nat_list_cmp_total n)) ∙ sym (ap (λ (z : List ℕ). is_at (text_cmp z) n) same) ∙ other)

      by : ((name ≡ n) × (new ≡ w)) ⊎ (variable s name ≡ Some w) → NameFrom (Bind n old new) o name
      by (inl p) = here p.0 p.1
      by (inr e') = by_test (is_at (text_cmp name) n)
          (λ y.
          let same : name ≡ n = exact_bytes name n (equal _ y) in
          here same (inside_some new w (sym (put_insert nat_list_cmp_total exact_bytes s.variables n new)
          ∙ sym (ap (λ (z : List ℕ). variable (apply l s (Bind n old new)) z) same) ∙ e)))
          (λ other.
          (inr (w, e', h), stays_other variable_key_total (held_keys n old) (variable_keys n new.value) (o, name) (out _ (λ t. differ other (held_place n old o name t)))))
  names_from (Unbind n old) v f o name w e h =
      let r = found_remove nat_list_cmp_total exact_bytes s.variables n name w v.variables.ordered e in
      (inr (w, r.0, h), out _ (λ t. r.1 (name_place n old.value o name t)))

  module _ (c : Change) (v : IsValid l s) (f : Fits l s c) (p p1 p2 : List (ℕ × (ℕ × ℕ))) (n n1 n2 : List (ℕ × List ℕ))
      (tells : TellsAll (record { layout = l; state = s }) p n)
      (stay : TellsMore slot_key_cmp p p1) (brought : TellsMore slot_key_cmp (slots_brought l c) p1) (forgets : Forgets slot_key_cmp (slots_left l c) p1 p2)
      (names_stay : TellsMore variable_key_cmp n n1) (names_brought : TellsMore variable_key_cmp (variables_brought c) n1)
      (names_forget : Forgets variable_key_cmp (variables_left c) n1 n2) where
    pub carried : TellsAll (record { layout = l; state = apply l s c }) p2 n2
    carried = record {
      slots = λ o x a y e h. let r = slots_from c v f o x a y e h in forgets (o, (x, a)) r.1 (place_of o x a r.0);
      variables = λ o name w e h. let r = names_from c v f o name w e h in names_forget (o, name) r.1 (name_of o name r.0);
    }
      where
        place_of : (o x a : ℕ) → (has slot_key_cmp (slots_brought l c) (o, (x, a)) ≡ true) ⊎ Before o x a → has slot_key_cmp p1 (o, (x, a)) ≡ true
        place_of o x a (inl h) = brought (o, (x, a)) h
        place_of o x a (inr b) = stay (o, (x, a)) (tells.slots o x a b.0 b.1 b.2)

        name_of : (o : ℕ) (name : List ℕ) → (has variable_key_cmp (variables_brought c) (o, name) ≡ true) ⊎ NameBefore o name → has variable_key_cmp n1 (o, name) ≡ true
        name_of o name (inl h) = names_brought (o, name) h
        name_of o name (inr b) = names_stay (o, name) (tells.variables o name b.0 b.1 b.2)
