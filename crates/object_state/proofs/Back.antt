-- A change and what takes it back lead back to the very state.
use Rattle.std.proofs.Common.{◌≡◌, ◌≢◌, ℕ, zero, suc, Bool, true, false, cond, List, [], ◌∷◌, length, slice_set, Option, Some, None, refl, sym, ap, ◌∙◌, subst, true≢false, not, ◌||◌, ◌&&◌, if◌then◌else◌}
use Rattle.std.specs.BTreeMap.{insert_entry, is_at}
use Rattle.std.specs.Cmp.{IsTotalOrder, nat_cmp_total, on_total, then_total}
use Rattle.std.specs.Cmp.Lexicographic.{nat_list_cmp_total}
use Rattle.std.specs.List.{find, slice_get}
use Rattle.std.specs.List.Sorted.{IsStrictlySortedBy}
use Rattle.std.specs.Map.{keys_of, lookup, remove_entry, set_value}
use Rattle.std.specs.Option.{is_some, option_and_then, option_map, option_map_or}
use Rattle.std.specs.Ordering.{nat_cmp}
use Rattle.std.specs.Prelude.{nat_eq}
use Rattle.std.proofs.lemmas.Bool.{eq-eqb, eqb-true}
use Rattle.std.proofs.lemmas.Map.Lookups.{exact_bytes, exact_pairs, exact_unsigned, CmpEqualImpliesEq}
use Rattle.object_state.specs.declared.change.Change.{Change}
use Rattle.object_state.specs.declared.change.Change.TheVariants.{Create, Remove, SetSlot, Link, Unlink, Bind, Unbind}
use Rattle.object_state.specs.declared.change.LinkChange.{LinkChange}
use Rattle.object_state.specs.declared.change.ObjectChange.{ObjectChange}
use Rattle.object_state.specs.declared.layout.Layout.{Layout}
use Rattle.object_state.specs.declared.objects.Object.{Object}
use Rattle.object_state.specs.declared.objects.Variable.{Variable}
use Rattle.ocl_values.specs.declared.value.Value.{Value}
use Rattle.object_state.specs.declared.store_fault.StoreFault.TheVariants.{X1, X2, X3, X4, X5, X6, X7, X8, X15}
use Rattle.object_state.specs.Changes.{apply, inverse, object_of, unbinding, with_object, with_slot}
use Rattle.object_state.specs.Faults.{BindingAgrees, CreationAgrees, Fits, LinkingAgrees, RemovalAgrees, SettingAgrees, UnlinkingAgrees, creates_abstract, fault, fills_links, fills_objects, grows_too_large, is_gone, is_linked, lacks_link, lacks_object, links_again, spends_counter, takes_name}
use Rattle.object_state.specs.Layouts.{place, slot}
use Rattle.object_state.specs.State.{State, link, link_cmp, object, stamp_of, text_cmp, variable}
use Rattle.object_state.specs.Valid.{IsValid, last_number}
use Rattle.object_state.proofs.Keyed.{both, both_true, equal, find_none, find_some, insert_back, insert_removed, lookup_set_here, remove_inserted, set_back, some≢none}

pub link_total : IsTotalOrder link_cmp
link_total = then_total (on_total (λ (t : ℕ × ℕ). t.0) nat_cmp_total) (on_total (λ (t : ℕ × ℕ). t.1) nat_cmp_total)

pub link_exact : CmpEqualImpliesEq link_cmp
link_exact = exact_pairs nat_cmp nat_cmp exact_unsigned exact_unsigned

-- a fault that there is not
pub passed : {X : Type 0} (b : Bool) (f : X) (o : Option X) → cond b (Some f) o ≡ None → (b ≡ false) × (o ≡ None)
passed true f o h = absurd (some≢none f h)
passed false f o h = (refl, h)

pub live : {X : Type 0} (o : Option X) → not (is_some o) ≡ false → (x : X) × (o ≡ Some x)
live None h = absurd (true≢false h)
live (Some x) h = (x, refl)

pub inside_some : {X : Type 0} (a b : X) → Some a ≡ Some b → a ≡ b
inside_some a b e = cc

-- what no fault says
pub record Faultless (l : Layout) (s : State) (c : Change) : Type 0 where
  pub name : takes_name s c ≡ false
  pub concrete : creates_abstract l c ≡ false
  pub fresh : links_again s c ≡ false
  pub there : lacks_link s c ≡ false
  pub live : lacks_object s c ≡ false
  pub object_room : fills_objects s c ≡ false
  pub link_room : fills_links s c ≡ false
  pub number : spends_counter c ≡ false
  pub light : grows_too_large s c ≡ false

pub faultless : (l : Layout) (s : State) (c : Change) → fault l s c ≡ None → Faultless l s c
faultless l s c h =
    let a1 = passed (takes_name s c) X1 _ h in
    let a2 = passed (creates_abstract l c) X2 _ a1.1 in
    let a3 = passed (links_again s c) X3 _ a2.1 in
    let a4 = passed (lacks_link s c) X4 _ a3.1 in
    let a5 = passed (lacks_object s c) X5 _ a4.1 in
    let a6 = passed (fills_objects s c) X6 _ a5.1 in
    let a7 = passed (fills_links s c) X7 _ a6.1 in
    let a8 = passed (spends_counter c) X15 _ a7.1 in
    let a9 = passed (grows_too_large s c) X8 _ a8.1 in
    record { name = a1.0; concrete = a2.0; fresh = a3.0; there = a4.0; live = a5.0; object_room = a6.0; link_room = a7.0; number = a8.0; light = a9.0 }

pub neither : (a b : Bool) → (a || b) ≡ false → (a ≡ false) × (b ≡ false)
neither true b h = absurd (true≢false h)
neither false b h = (refl, h)

pub turned : (b : Bool) → not b ≡ false → b ≡ true
turned true h = refl
turned false h = absurd (true≢false h)

pub ends_live : (s : State) (d : LinkChange) → (is_gone s d.first || is_gone s d.second) ≡ false
    → ((x : Object) × (object s d.first ≡ Some x)) × ((x : Object) × (object s d.second ≡ Some x))
ends_live s d h = let n = neither (is_gone s d.first) (is_gone s d.second) h in (live (object s d.first) n.0, live (object s d.second) n.1)

-- two tests at numbers
pub other_number : (a b : ℕ) → nat_eq a b ≡ false → a ≢ b
other_number a b h e = true≢false (sym (eq-eqb a b e) ∙ h)

-- a link that a search finds
pub link_found : (s : State) (a f g : ℕ) (e : (ℕ × ℕ) × (ℕ × ℕ)) → find (λ e. nat_eq e.0.0 a && nat_eq e.1.0 f && nat_eq e.1.1 g) s.links ≡ Some e
    → IsStrictlySortedBy link_cmp (keys_of s.links) → (link s e.0 ≡ Some (f, g)) × (e.0.0 ≡ a)
link_found s a f g e h up =
    let r = find_some link_total (λ e. nat_eq e.0.0 a && nat_eq e.1.0 f && nat_eq e.1.1 g) s.links e h up in
    let p = both (nat_eq e.0.0 a && nat_eq e.1.0 f) (nat_eq e.1.1 g) r.1 in
    let q = both (nat_eq e.0.0 a) (nat_eq e.1.0 f) p.0 in
    let first : e.1.0 ≡ f = eqb-true _ _ q.1 in
    let second : e.1.1 ≡ g = eqb-true _ _ p.1 in
    (r.0 ∙ (λ i. Some (first i, second i)), eqb-true _ _ q.0)

-- where no link is found, there is none
pub link_missing : (s : State) (a f g : ℕ) → stamp_of s a f g ≡ None → (k : ℕ × ℕ) → link s k ≡ Some (f, g) → k.0 ≡ a → ⊥
link_missing s a f g h k e same =
    let r = find_none (λ e. nat_eq e.0.0 a && nat_eq e.1.0 f && nat_eq e.1.1 g) s.links (missing _ h) (is_at (link_cmp k)) (f, g) e in
    let here : k ≡ r.0 = link_exact k r.0 (equal _ r.1) in
    true≢false (sym (both_true (nat_eq r.0.0 a) (nat_eq f f) (nat_eq g g) (eq-eqb _ _ (sym (ap (λ z. z.0) here) ∙ same)) (eq-eqb f f refl) (eq-eqb g g refl))
    ∙ r.2)
  where
    missing : (o : Option ((ℕ × ℕ) × (ℕ × ℕ))) → option_map (λ e. e.0.1) o ≡ None → o ≡ None
    missing None h = refl
    missing (Some e) h = absurd (some≢none e.0.1 h)

-- the stamp of a link that there is
pub stamp_is : (l : Layout) (s : State) (d : LinkChange) → IsStrictlySortedBy link_cmp (keys_of s.links) → UnlinkingAgrees l s d → is_linked s d ≡ true
    → link s (d.assoc, d.stamp) ≡ Some (d.first, d.second)
stamp_is l s d up a there = by (find (λ e. nat_eq e.0.0 d.assoc && nat_eq e.1.0 d.first && nat_eq e.1.1 d.second) s.links) refl there
  where
    by : (o : Option ((ℕ × ℕ) × (ℕ × ℕ))) → find (λ e. nat_eq e.0.0 d.assoc && nat_eq e.1.0 d.first && nat_eq e.1.1 d.second) s.links ≡ o
        → is_some (option_map (λ e. e.0.1) o) ≡ true → link s (d.assoc, d.stamp) ≡ Some (d.first, d.second)
    by None h t = absurd (true≢false (sym t))
    by (Some e) h t =
        let r = link_found s d.assoc d.first d.second e h up in
        let stamp : e.0.1 ≡ d.stamp = a.same e.0 r.0 r.1 in
        subst (λ (k : ℕ × ℕ). link s k ≡ Some (d.first, d.second)) (λ i. (r.1 i, stamp i)) r.0

-- a slot that is set and set back
abbrev pub set_at : Option ℕ → Object → Value → Object
set_at p x v = option_map_or (λ i. record { name = x.name; class = x.class; slots = slice_set x.slots i v }) p x

pub class_set_at : (p : Option ℕ) (x : Object) (v : Value) → (set_at p x v).class ≡ x.class
class_set_at None x v = refl
class_set_at (Some i) x v = refl

pub name_set_at : (p : Option ℕ) (x : Object) (v : Value) → (set_at p x v).name ≡ x.name
name_set_at None x v = refl
name_set_at (Some i) x v = refl

pub set_set : {X : Type 0} (xs : List X) (i : ℕ) (v w : X) → slice_get xs i ≡ Some v → slice_set (slice_set xs i w) i v ≡ xs
set_set [] i v w h = refl
set_set (x ∷ xs) zero v w h = ap (λ y. y ∷ xs) (sym (inside_some x v h))
set_set (x ∷ xs) (suc i) v w h = ap (λ l. x ∷ l) (set_set xs i v w h)

set_at_back : (p q : Option ℕ) (x : Object) (old new : Value) → option_and_then (slice_get x.slots) p ≡ Some old → q ≡ p → set_at q (set_at p x new) old ≡ x
set_at_back None q x old new h e = absurd (some≢none old (sym h))
set_at_back (Some i) q x old new h e = rw e (λ j. record { name = x.name; class = x.class; slots = set_set x.slots i old new h j })

pub slot_back : (l : Layout) (x : Object) (a : ℕ) (old new : Value) → slot l x a ≡ Some old → with_slot l (with_slot l x a new) a old ≡ x
slot_back l x a old new h =
    set_at_back (place l x.class a) (place l (with_slot l x a new).class a) x old new h (ap (λ c. place l c a) (class_set_at (place l x.class a) x new))

pub apply_set : (l : Layout) (s : State) (o a : ℕ) (old new : Value) (x : Object) → object s o ≡ Some x
    → apply l s (SetSlot o a old new) ≡ with_object s o (with_slot l x a new)
apply_set l s o a old new x e = ap (λ (u : Option Object). option_map_or (λ x. with_object s o (with_slot l x a new)) u s) e

unbound : (l : Layout) (s : State) (name : List ℕ) (old : Option Variable) (new : Variable) → IsStrictlySortedBy text_cmp (keys_of s.variables)
    → variable s name ≡ old
    → apply l (apply l s (Bind name old new)) (unbinding name new old) ≡ s
unbound l s name None new up e i =
    record {
      objects = s.objects;
      links = s.links;
      variables = remove_inserted nat_list_cmp_total s.variables name new e i;
      next_object = s.next_object;
      next_stamp = s.next_stamp;
    }
unbound l s name (Some old) new up e i =
    record {
      objects = s.objects;
      links = s.links;
      variables = insert_back nat_list_cmp_total exact_bytes s.variables name old new up e i;
      next_object =
          s.next_object;
      next_stamp = s.next_stamp;
    }

pub absent : {X : Type 0} (o : Option X) → ((x : X) → o ≡ Some x → ⊥) → o ≡ None
absent None h = refl
absent (Some x) h = absurd (h x refl)

pub link_free : (l : Layout) (s : State) (d : LinkChange) → Fits l s (Link d) → link s (d.assoc, d.stamp) ≡ None
link_free l s d f =
    let g : LinkingAgrees l s d = f.agrees in
    let k = faultless l s (Link d) f.faultless in
    absent (link s (d.assoc, d.stamp)) (λ pair e. g.free (other_number d.stamp last_number k.number) (d.assoc, d.stamp) pair e refl)

pub taken_back : (l : Layout) (s : State) (c : Change) → IsValid l s → Fits l s c → apply l (apply l s c) (inverse c) ≡ s
taken_back l s (Create d) v f =
    let g : CreationAgrees l s d = f.agrees in
    let k = faultless l s (Create d) f.faultless in
    let free : object s d.object ≡ None = g.free (other_number d.object last_number k.number) in
    λ i. record {
      objects = remove_inserted nat_cmp_total s.objects d.object (object_of d) free i;
      links = s.links;
      variables = s.variables;
      next_object =
          g.before i;
      next_stamp = s.next_stamp;
    }
taken_back l s (Remove d) v f =
    let g : RemovalAgrees l s d = f.agrees in
    let k = live (object s d.object) (faultless l s (Remove d) f.faultless).live in
    let there : object s d.object ≡ Some (object_of d) = k.1 ∙ ap (λ (x : Object). Some x) (g.same k.0 k.1) in
    λ i. record {
      objects = insert_removed nat_cmp_total exact_unsigned s.objects d.object (object_of d) v.objects.ordered there i;
      links = s.links;
      variables =
          s.variables;
      next_object = g.before i;
      next_stamp = s.next_stamp;
    }
taken_back l s (SetSlot o a old new) v f =
    let g : SettingAgrees l s o a old new = f.agrees in
    let k = live (object s o) (faultless l s (SetSlot o a old new) f.faultless).live in
    let x' = with_slot l k.0 a new in
    let now : object (with_object s o x') o ≡ Some x' = lookup_set_here (is_at (nat_cmp o)) s.objects k.0 x' k.1 in
    ap (λ (t : State). apply l t (SetSlot o a new old)) (apply_set l s o a old new k.0 k.1)
    ∙ apply_set l (with_object s o x') o a new old x' now
    ∙ (λ i. record {
      objects = set_value (is_at (nat_cmp o)) (set_value (is_at (nat_cmp o)) s.objects x') (slot_back l k.0 a old new
          (g.same k.0 k.1) i);
      links = s.links;
      variables = s.variables;
      next_object = s.next_object;
      next_stamp = s.next_stamp;
    })
    ∙ (λ i. record {
      objects = set_back (is_at (nat_cmp o)) s.objects k.0 x' k.1 i;
      links = s.links;
      variables = s.variables;
      next_object = s.next_object;
      next_stamp = s.next_stamp;
    })
taken_back l s (Link d) v f =
    let g : LinkingAgrees l s d = f.agrees in
    λ i. record {
      objects = s.objects;
      links = remove_inserted link_total s.links (d.assoc, d.stamp) (d.first, d.second)
          (link_free l s d f) i;
      variables = s.variables;
      next_object = s.next_object;
      next_stamp = g.ends.before i;
    }
taken_back l s (Unlink d) v f =
    let g : UnlinkingAgrees l s d = f.agrees in
    let k = faultless l s (Unlink d) f.faultless in
    let there = stamp_is l s d v.links.ordered g (turned (is_linked s d) k.there) in
    λ i. record {
      objects = s.objects;
      links = insert_removed link_total link_exact s.links (d.assoc, d.stamp)
          (d.first, d.second) v.links.ordered there i;
      variables = s.variables;
      next_object = s.next_object;
      next_stamp = g.ends.before i;
    }
taken_back l s (Bind name old new) v f = let g : BindingAgrees s name old new = f.agrees in unbound l s name old new v.variables.ordered g.same
taken_back l s (Unbind name old) v f =
    let g : variable s name ≡ Some old = f.agrees in
    λ i. record {
      objects = s.objects;
      links = s.links;
      variables = insert_removed nat_list_cmp_total exact_bytes s.variables name old v.variables.ordered g i;
      next_object = s.next_object;
      next_stamp = s.next_stamp;
    }
