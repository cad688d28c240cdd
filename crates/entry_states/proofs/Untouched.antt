-- A change that fits leaves the cells that it does not touch.
use Rattle.std.proofs.Common.{◌≡◌, ◌⊎◌, inl, inr, ℕ, zero, suc, false, List, [], ◌∷◌, Option, Some, None, slice_set, refl, sym, ap, ◌∙◌, true≢false}
use Rattle.std.specs.BTreeMap.{is_at}
use Rattle.std.specs.List.{slice_get}
use Rattle.std.specs.Option.{option_and_then}
use Rattle.std.specs.Ordering.{nat_cmp}
use Rattle.std.proofs.lemmas.Map.Steps.{set_value_same}
use Rattle.ocl_values.specs.declared.value.Value.{Value}
use Rattle.object_state.specs.declared.cell.Cell.{Cell}
use Rattle.object_state.specs.declared.change.Change.{Change}
use Rattle.object_state.specs.declared.change.Change.TheVariants.{Create, Remove, SetSlot, Link, Unlink, Bind, Unbind}
use Rattle.object_state.specs.declared.layout.Layout.{Layout}
use Rattle.object_state.specs.declared.objects.Object.{Object}
use Rattle.object_state.specs.Changes.{apply, with_object, with_slot}
use Rattle.object_state.specs.Faults.{Fits, SettingAgrees}
use Rattle.object_state.specs.Layouts.{place}
use Rattle.object_state.specs.Looks.{look}
use Rattle.object_state.specs.State.{State, object}
use Rattle.object_state.specs.Touched.{SetsAnother, has_cell, touched}
use Rattle.object_state.specs.Valid.{IsValid}
use Rattle.object_state.proofs.Altered.{alters}
use Rattle.object_state.proofs.Back.{apply_set, faultless, inside_some, live, set_at}
use Rattle.entry_states.proofs.Cells.{same_look, value_known}

-- what is set to the value that it has stays
set_one : (xs : List Value) (i : ℕ) (v : Value) → slice_get xs i ≡ Some v → slice_set xs i v ≡ xs
set_one [] i v h = refl
set_one (x ∷ xs) zero v h = ap (λ y. y ∷ xs) (sym (inside_some x v h))
set_one (x ∷ xs) (suc i) v h = ap (λ l. x ∷ l) (set_one xs i v h)

set_same : (p : Option ℕ) (x : Object) (v : Value) → option_and_then (slice_get x.slots) p ≡ Some v → set_at p x v ≡ x
set_same None x v h = refl
set_same (Some i) x v h = λ j. record { name = x.name; class = x.class; slots = set_one x.slots i v h j }

slot_same : (l : Layout) (s : State) (o a : ℕ) (old new : Value) → Fits l s (SetSlot o a old new) → old ≡ new → apply l s (SetSlot o a old new) ≡ s
slot_same l s o a old new f e =
    let g : SettingAgrees l s o a old new = f.agrees in
    let k = live (object s o) (faultless l s (SetSlot o a old new) f.faultless).live in
    apply_set l s o a old new k.0 k.1
    ∙ ap (λ v. with_object s o (with_slot l k.0 a v)) (sym e)
    ∙ ap (with_object s o) (set_same (place l k.0.class a) k.0 old (g.same k.0 k.1))
    ∙ (λ i. record s { objects = set_value_same (is_at (nat_cmp o)) s.objects k.0 k.1 i })

module _ (l : Layout) (s : State) (x : Cell) (v : IsValid l s) where
  where_another : (c : Change) → Fits l s c → SetsAnother c → has_cell (touched l c) x ≡ false → look l (apply l s c) x ≡ look l s x
  where_another c f n h = sym (same_look (look l s x) (look l (apply l s c) x) (λ d. true≢false (sym ((alters l s c x v f n).1 d) ∙ h)))

  pub untouched : (c : Change) → Fits l s c → has_cell (touched l c) x ≡ false → look l (apply l s c) x ≡ look l s x
  untouched (SetSlot o a old new) f h = by_value (value_known old new)
    where
      by_value : (old ≡ new) ⊎ (¬ (old ≡ new)) → look l (apply l s (SetSlot o a old new)) x ≡ look l s x
      by_value (inl e) = ap (λ (t : State). look l t x) (slot_same l s o a old new f e)
      by_value (inr n) = where_another (SetSlot o a old new) f n h
  untouched (Create d) f h = where_another (Create d) f tt h
  untouched (Remove d) f h = where_another (Remove d) f tt h
  untouched (Link d) f h = where_another (Link d) f tt h
  untouched (Unlink d) f h = where_another (Unlink d) f tt h
  untouched (Bind name old new) f h = where_another (Bind name old new) f tt h
  untouched (Unbind name old) f h = where_another (Unbind name old) f tt h
