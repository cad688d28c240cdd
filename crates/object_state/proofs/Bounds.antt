-- What a part of a valid state weighs at most.
use Rattle.std.proofs.Common.{◌≡◌, ℕ, ◌+◌, ◌≤◌, zero, suc, Bool, true, false, List, [], ◌∷◌, Option, Some, None, refl, sym, ap, ◌∙◌, subst, arith, unwrap_or}
use Rattle.std.specs.BTreeMap.{is_at}
use Rattle.std.specs.List.{slice_get, sum_by}
use Rattle.std.specs.Map.{lookup, remove_entry, values_of}
use Rattle.std.specs.Option.{option_and_then, option_map, option_map_or}
use Rattle.std.specs.Ordering.{nat_cmp}
use Rattle.std.proofs.lemmas.Map.Entries.{sum_by-remove_entry}
use Rattle.ocl_values.specs.declared.value.Value.{Value}
use Rattle.ocl_values.specs.Shape.{size_of, sizes_of}
use Rattle.object_state.specs.declared.layout.Layout.{Layout}
use Rattle.object_state.specs.declared.objects.Object.{Object}
use Rattle.object_state.specs.declared.objects.Variable.{Variable}
use Rattle.object_state.specs.Faults.{BindingAgrees, SettingAgrees, is_gone}
use Rattle.object_state.specs.Layouts.{place, slot}
use Rattle.object_state.specs.State.{State, object, text_cmp, variable}
use Rattle.object_state.specs.Valid.{IsValid, max_weight}
use Rattle.object_state.specs.Weights.{object_weight, variable_weight, weight}
use Rattle.object_state.proofs.Back.{inside_some, live}
use Rattle.object_state.proofs.Keyed.{some≢none}

part : {K X : Type 0} (f : X → ℕ) (test : K → Bool) (es : List (K × X)) (x : X) → lookup test es ≡ Some x → f x ≤ sum_by f (values_of es)
part f test es x e =
    let k = subst (λ u. sum_by f (values_of (remove_entry test es)) + unwrap_or (option_map f u) 0 ≡ sum_by f (values_of es)) e
    (sum_by-remove_entry f test es) in
    omega arith

pub object_part : (s : State) (o : ℕ) (x : Object) → object s o ≡ Some x → object_weight x ≤ weight s
object_part s o x e =
    let h = part object_weight (is_at (nat_cmp o)) s.objects x e in
    omega arith

pub variable_part : (s : State) (name : List ℕ) (v : Variable) → variable s name ≡ Some v → variable_weight v ≤ weight s
variable_part s name v e =
    let h = part variable_weight (is_at (text_cmp name)) s.variables v e in
    omega arith

one_of : (vs : List Value) (i : ℕ) (v : Value) → slice_get vs i ≡ Some v → size_of v ≤ sizes_of vs
one_of [] i v e = absurd (some≢none v (sym e))
one_of (w ∷ ws) zero v e = let h : size_of w ≡ size_of v = ap size_of (inside_some w v e) in omega arith
one_of (w ∷ ws) (suc i) v e = let h = one_of ws i v e in omega arith

slot_of : (p : Option ℕ) (x : Object) (v : Value) → option_and_then (slice_get x.slots) p ≡ Some v → size_of v ≤ sizes_of x.slots
slot_of None x v e = absurd (some≢none v (sym e))
slot_of (Some i) x v e = one_of x.slots i v e

pub old_slot_fits : (l : Layout) (s : State) (o a : ℕ) (old new : Value) → IsValid l s → SettingAgrees l s o a old new → is_gone s o ≡ false
    → size_of old ≤ max_weight
old_slot_fits l s o a old new v g h =
    let x = live (object s o) h in
    let one = slot_of (place l (x.0).class a) x.0 old (g.same x.0 x.1) in
    let all = object_part s o x.0 x.1 in
    let light = v.light in
    omega arith

pub old_variable_fits : (l : Layout) (s : State) (name : List ℕ) (old : Option Variable) (new : Variable) → IsValid l s → BindingAgrees s name old new
    → option_map_or variable_weight old 0 ≤ max_weight
old_variable_fits l s name None new v g = omega arith
old_variable_fits l s name (Some old) new v g =
    let one = variable_part s name old g.same in
    let light = v.light in
    omega arith
