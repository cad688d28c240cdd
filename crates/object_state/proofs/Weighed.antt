-- What a change makes of the weight.
use Rattle.std.proofs.Common.{◌≡◌, ℕ, ◌+◌, ◌≤◌, ◌<◌, zero, suc, Bool, true, false, cond, ◌&&◌, List, [], ◌∷◌, length, slice_set, Option, Some, None, refl, sym, ap, ◌∙◌, subst, true≢false, arith, unwrap_or}
use Rattle.std.specs.BTreeMap.{insert_entry, is_at}
use Rattle.std.specs.Cmp.{nat_cmp_total}
use Rattle.std.specs.Cmp.Lexicographic.{nat_list_cmp_total}
use Rattle.std.specs.List.{slice_get, sum_by}
use Rattle.std.specs.Map.{lookup, remove_entry, set_value, values_of}
use Rattle.std.specs.Option.{option_and_then, option_map, option_map_or}
use Rattle.std.specs.Ordering.{nat_cmp}
use Rattle.std.specs.Prelude.{nat_lt}
use Rattle.std.proofs.lemmas.Bool.{ltb-false}
use Rattle.std.proofs.lemmas.Map.Entries.{sum_by-insert_entry, sum_by-remove_entry, sum_by-set_value}
use Rattle.ocl_values.specs.declared.value.Value.{Value}
use Rattle.ocl_values.specs.Shape.{size_of, sizes_of}
use Rattle.object_state.specs.declared.change.Change.{Change}
use Rattle.object_state.specs.declared.change.Change.TheVariants.{Create, Remove, SetSlot, Link, Unlink, Bind, Unbind}
use Rattle.object_state.specs.declared.layout.Layout.{Layout}
use Rattle.object_state.specs.declared.objects.Object.{Object}
use Rattle.object_state.specs.declared.objects.Variable.{Variable}
use Rattle.object_state.specs.Changes.{apply, object_of, with_object, with_slot}
use Rattle.object_state.specs.Faults.{BindingAgrees, CreationAgrees, Fits, LinkingAgrees, RemovalAgrees, SettingAgrees, UnlinkingAgrees, grows_too_large, is_linked}
use Rattle.object_state.specs.Layouts.{place, slot}
use Rattle.object_state.specs.State.{State, link, link_cmp, object, text_cmp, variable}
use Rattle.object_state.specs.Valid.{IsValid, last_number, max_weight}
use Rattle.object_state.specs.Weights.{gained, lost, object_weight, variable_weight, weight}
use Rattle.object_state.proofs.Back.{Faultless, apply_set, faultless, inside_some, link_free, live, other_number, set_at, stamp_is, turned}
use Rattle.object_state.proofs.Keyed.{length_insert, length_remove, some≢none}

-- sums over plain numbers
objects_gain : (a b v n w : ℕ) → a + 0 ≡ b + w → a + v + n + 0 ≡ b + v + n + w
objects_gain a b v n w e = omega arith

objects_lose : (a b v n w : ℕ) → a + w ≡ b → a + v + n + w ≡ b + v + n + 0
objects_lose a b v n w e = omega arith

objects_turn : (a b v n x y o w : ℕ) → a + x ≡ b + y → y + o ≡ x + w → a + v + n + o ≡ b + v + n + w
objects_turn a b v n x y o w e f = omega arith

links_gain : (a v m n : ℕ) → m ≡ suc n → a + v + m + 0 ≡ a + v + n + 1
links_gain a v m n e = omega arith

links_lose : (a v m n : ℕ) → suc m ≡ n → a + v + m + 1 ≡ a + v + n + 0
links_lose a v m n e = omega arith

variables_turn : (a u v n x w : ℕ) → u + x ≡ v + w → a + u + n + x ≡ a + v + n + w
variables_turn a u v n x w e = omega arith

variables_lose : (a u v n x : ℕ) → u + x ≡ v → a + u + n + x ≡ a + v + n + 0
variables_lose a u v n x e = omega arith

sizes_set : (vs : List Value) (i : ℕ) (old new : Value) → slice_get vs i ≡ Some old → sizes_of (slice_set vs i new) + size_of old ≡ sizes_of vs + size_of new
sizes_set [] i old new e = absurd (some≢none old (sym e))
sizes_set (v ∷ vs) zero old new e = let h : size_of v ≡ size_of old = ap size_of (inside_some v old e) in omega arith
sizes_set (v ∷ vs) (suc i) old new e = let h = sizes_set vs i old new e in omega arith

set_at_weight : (p : Option ℕ) (x : Object) (old new : Value) → option_and_then (slice_get x.slots) p ≡ Some old
    → object_weight (set_at p x new) + size_of old ≡ object_weight x + size_of new
set_at_weight None x old new e = absurd (some≢none old (sym e))
set_at_weight (Some i) x old new e = let h = sizes_set x.slots i old new e in omega arith

bound : (old : Option Variable) → unwrap_or (option_map variable_weight old) 0 ≡ option_map_or variable_weight old 0
bound None = refl
bound (Some v) = refl

pub weighs : (l : Layout) (s : State) (c : Change) → IsValid l s → Fits l s c → weight (apply l s c) + lost c ≡ weight s + gained c
weighs l s (Create d) v f =
    let g : CreationAgrees l s d = f.agrees in
    let k = faultless l s (Create d) f.faultless in
    let free : object s d.object ≡ None = g.free (other_number d.object last_number k.number) in
    let e = sum_by-insert_entry object_weight nat_cmp_total s.objects d.object (object_of d) v.objects.ordered in
    let e' = subst (λ (u : Option Object). sum_by object_weight (values_of (insert_entry nat_cmp s.objects d.object (object_of d))) + unwrap_or
    (option_map object_weight u) 0 ≡ sum_by object_weight (values_of s.objects) + object_weight (object_of d)) free e in
    objects_gain (sum_by object_weight (values_of (insert_entry nat_cmp s.objects d.object (object_of d)))) (sum_by object_weight (values_of s.objects))
    (sum_by variable_weight (values_of s.variables)) (length s.links) (object_weight (object_of d)) e'
weighs l s (Remove d) v f =
    let g : RemovalAgrees l s d = f.agrees in
    let k = live (object s d.object) (faultless l s (Remove d) f.faultless).live in
    let there : object s d.object ≡ Some (object_of d) = k.1 ∙ ap (λ (x : Object). Some x) (g.same k.0 k.1) in
    let e = sum_by-remove_entry object_weight (is_at (nat_cmp d.object)) s.objects in
    let e' = subst (λ (u : Option Object). sum_by object_weight (values_of (remove_entry (is_at (nat_cmp d.object)) s.objects)) + unwrap_or
    (option_map object_weight u) 0 ≡ sum_by object_weight (values_of s.objects)) there e in
    objects_lose (sum_by object_weight (values_of (remove_entry (is_at (nat_cmp d.object)) s.objects))) (sum_by object_weight (values_of s.objects))
    (sum_by variable_weight (values_of s.variables)) (length s.links) (object_weight (object_of d)) e'
weighs l s (SetSlot o a old new) v f =
    let g : SettingAgrees l s o a old new = f.agrees in
    let k = live (object s o) (faultless l s (SetSlot o a old new) f.faultless).live in
    let x' = with_slot l k.0 a new in
    let e = sum_by-set_value object_weight (is_at (nat_cmp o)) s.objects k.0 x' k.1 in
    let h = set_at_weight (place l (k.0).class a) k.0 old new (g.same k.0 k.1) in
    ap (λ (t : State). weight t + size_of old) (apply_set l s o a old new k.0 k.1)
    ∙ objects_turn (sum_by object_weight (values_of (set_value (is_at (nat_cmp o)) s.objects x'))) (sum_by object_weight (values_of s.objects))
    (sum_by variable_weight (values_of s.variables)) (length s.links) (object_weight k.0) (object_weight x') (size_of old) (size_of new) e h
weighs l s (Link d) v f =
    links_gain (sum_by object_weight (values_of s.objects)) (sum_by variable_weight (values_of s.variables)) (length (insert_entry link_cmp s.links
    (d.assoc, d.stamp) (d.first, d.second))) (length s.links)
    (length_insert link_cmp s.links (d.assoc, d.stamp) (d.first, d.second) (link_free l s d f))
weighs l s (Unlink d) v f =
    let g : UnlinkingAgrees l s d = f.agrees in
    let k = faultless l s (Unlink d) f.faultless in
    let there = stamp_is l s d v.links.ordered g (turned (is_linked s d) k.there) in
    links_lose (sum_by object_weight (values_of s.objects)) (sum_by variable_weight (values_of s.variables)) (length (remove_entry (is_at (link_cmp
    (d.assoc, d.stamp))) s.links)) (length s.links)
    (length_remove (is_at (link_cmp (d.assoc, d.stamp))) s.links (d.first, d.second) there)
weighs l s (Bind name old new) v f =
    let g : BindingAgrees s name old new = f.agrees in
    let e = sum_by-insert_entry variable_weight nat_list_cmp_total s.variables name new v.variables.ordered in
    let e' = subst (λ (u : Option Variable). sum_by variable_weight (values_of (insert_entry text_cmp s.variables name new)) + unwrap_or
    (option_map variable_weight u) 0 ≡ sum_by variable_weight (values_of s.variables) + variable_weight new) g.same e in
    let e'' = subst (λ (z : ℕ). sum_by variable_weight (values_of (insert_entry text_cmp s.variables name new)) + z ≡ sum_by variable_weight
    (values_of s.variables) + variable_weight new) (bound old) e' in
    variables_turn (sum_by object_weight (values_of s.objects)) (sum_by variable_weight (values_of (insert_entry text_cmp s.variables name new)))
    (sum_by variable_weight (values_of s.variables)) (length s.links)
    (option_map_or variable_weight old 0) (variable_weight new) e''
weighs l s (Unbind name old) v f =
    let g : variable s name ≡ Some old = f.agrees in
    let e = sum_by-remove_entry variable_weight (is_at (text_cmp name)) s.variables in
    let e' = subst (λ (u : Option Variable). sum_by variable_weight (values_of (remove_entry (is_at (text_cmp name)) s.variables)) + unwrap_or
    (option_map variable_weight u) 0 ≡ sum_by variable_weight (values_of s.variables)) g e in
    variables_lose (sum_by object_weight (values_of s.objects)) (sum_by variable_weight (values_of (remove_entry (is_at (text_cmp name)) s.variables)))
    (sum_by variable_weight (values_of s.variables)) (length s.links)
    (variable_weight old) e'

not_heavy : (w m lo ga : ℕ) → (nat_lt lo ga && nat_lt (m + lo) (w + ga)) ≡ false → w ≤ m → w + ga ≤ m + lo
not_heavy w m lo ga h up = by (nat_lt lo ga) (nat_lt (m + lo) (w + ga)) refl refl h
  where
    by : (a b : Bool) → nat_lt lo ga ≡ a → nat_lt (m + lo) (w + ga) ≡ b → (a && b) ≡ false → w + ga ≤ m + lo
    by true true e f h = absurd (true≢false h)
    by true false e f h = let k = ltb-false (m + lo) (w + ga) f in omega arith
    by false b e f h = let k = ltb-false lo ga e in omega arith

after : (w w' m lo ga : ℕ) → w' + lo ≡ w + ga → w + ga ≤ m + lo → w' ≤ m
after w w' m lo ga e h = omega arith

pub stays_light : (l : Layout) (s : State) (c : Change) → IsValid l s → Fits l s c → weight (apply l s c) ≤ max_weight
stays_light l s c v f =
    after (weight s) (weight (apply l s c)) max_weight (lost c) (gained c) (weighs l s c v f)
    (not_heavy (weight s) max_weight (lost c) (gained c) (faultless l s c f.faultless).light v.light)
