-- Each change that fits leads from a valid state to a valid one.
use Rattle.std.proofs.Common.{◌≡◌, ◌≢◌, ◌⊎◌, inl, inr, ⊎_elim, ℕ, ◌+◌, ◌≤◌, ◌<◌, suc, Bool, true, false, List, length, slice_set, Option, Some, None, refl, sym, ap, ◌∙◌, subst, true≢false, arith}
use Rattle.std.specs.BTreeMap.{insert_entry, is_at}
use Rattle.std.specs.Cmp.{nat_cmp_total}
use Rattle.std.specs.Cmp.Lexicographic.{bytes_decides, nat_list_cmp_total, pointwise}
use Rattle.std.specs.List.{All, find}
use Rattle.std.specs.List.Sorted.{IsStrictlySortedBy}
use Rattle.std.specs.Map.{keys_of, lookup, remove_entry, set_value}
use Rattle.std.specs.Option.{is_some, option_map, option_map_or}
use Rattle.std.specs.Ordering.{nat_cmp}
use Rattle.std.specs.Prelude.{nat_eq, nat_le}
use Rattle.std.proofs.lemmas.Bool.{eqb-true, leb-false}
use Rattle.std.proofs.lemmas.List.{length-set}
use Rattle.std.proofs.lemmas.List.Elements.{All-set}
use Rattle.std.proofs.lemmas.Map.{keys-set_value, length-set_value}
use Rattle.std.proofs.lemmas.Map.Lookups.{exact_bytes, exact_unsigned}
use Rattle.ocl_values.specs.declared.value.Value.{Value}
use Rattle.ocl_values.specs.Shape.{IsWellMade}
use Rattle.class_model.specs.declared.numbers.End.{End}
use Rattle.class_model.specs.declared.numbers.End.TheVariants.{First, Second}
use Rattle.object_state.specs.declared.change.Change.{Change}
use Rattle.object_state.specs.declared.change.Change.TheVariants.{Create, Remove, SetSlot, Link, Unlink, Bind, Unbind}
use Rattle.object_state.specs.declared.change.LinkChange.{LinkChange}
use Rattle.object_state.specs.declared.change.ObjectChange.{ObjectChange}
use Rattle.object_state.specs.declared.layout.Layout.{Layout}
use Rattle.object_state.specs.declared.objects.Object.{Object}
use Rattle.object_state.specs.declared.objects.Variable.{Variable}
use Rattle.object_state.specs.Changes.{apply, object_of, with_object, with_slot}
use Rattle.object_state.specs.Faults.{BindingAgrees, CreationAgrees, Fits, LinkingAgrees, RemovalAgrees, SettingAgrees, UnlinkingAgrees, is_linked}
use Rattle.object_state.specs.Layouts.{attrs, may_stand, place}
use Rattle.object_state.specs.Looks.{stands}
use Rattle.object_state.specs.State.{State, link, link_cmp, object, object_named, stamp_of, text_cmp, variable}
use Rattle.object_state.specs.Valid.{IsInstance, IsValid, Joins, LinksAreValid, ObjectsAreValid, VariablesAreValid, last_number, max_links, max_objects, max_weight}
use Rattle.object_state.specs.Weights.{weight}
use Rattle.object_state.proofs.Back.{Faultless, absent, apply_set, class_set_at, ends_live, faultless, inside_some, link_exact, link_free, link_missing, link_total, live, name_set_at, neither, other_number, set_at, stamp_is, turned}
use Rattle.object_state.proofs.Keyed.{by_test, find_none, found_insert, found_remove, found_set, kept_insert, kept_remove, kept_set, length_insert, length_remove, lookup_set_here, some≢none, sorted_insert, sorted_remove}
use Rattle.object_state.proofs.Weighed.{stays_light}

pub not_some : {X : Type 0} (u : Option X) → is_some u ≡ false → u ≡ None
not_some None h = refl
not_some (Some x) h = absurd (true≢false h)

not_named : (u : Option (ℕ × Object)) → is_some (option_map (λ e. e.0) u) ≡ false → u ≡ None
not_named None h = refl
not_named (Some e) h = absurd (true≢false h)

pub not_stamped : (u : Option ℕ) → is_some u ≡ false → u ≡ None
not_stamped None h = refl
not_stamped (Some e) h = absurd (true≢false h)

-- no object has a name that no search finds
pub name_free : (s : State) (n : List ℕ) → is_some (object_named s n) ≡ false → (o : ℕ) (x : Object) → object s o ≡ Some x → x.name ≡ n → ⊥
name_free s n h o x e same =
    let r = find_none (λ (e : ℕ × Object). pointwise nat_eq e.1.name n) s.objects (not_named _ h) (is_at (nat_cmp o)) x e in
    true≢false (sym ((bytes_decides x.name n).1 same) ∙ r.2)

-- where an object stays, it stands where it stood
pub stands_on : (l : Layout) (s t : State) (a : ℕ) (e : End) (o : ℕ)
    → ((x : Object) → object s o ≡ Some x → (y : Object) × (object t o ≡ Some y) × (y.class ≡ x.class)) → stands l s a e o ≡ true → stands l t a e o ≡ true
stands_on l s t a e o h k = by (object s o) refl k
  where
    by : (u : Option Object) → object s o ≡ u → option_map_or (λ (x : Object). may_stand l a e x.class) u false ≡ true → stands l t a e o ≡ true
    by None q k = absurd (true≢false (sym k))
    by (Some x) q k =
        let r = h x q in
        ap (λ (u : Option Object). option_map_or (λ (x : Object). may_stand l a e x.class) u false) r.1 ∙ ap (λ (c : ℕ). may_stand l a e c) r.2 ∙ k

-- two numbers are equal or not
pub by_number : {P : Type 0} (a b : ℕ) → (a ≡ b → P) → (a ≢ b → P) → P
by_number a b f g = by_test (nat_eq a b) (λ y. f (eqb-true a b y)) (λ n. g (other_number a b n))

room_for : (m n k : ℕ) → nat_le m n ≡ false → k ≡ suc n → k ≤ m
room_for m n k h e = let r = leb-false m n h in omega arith

fewer : (m n k : ℕ) → suc k ≡ n → n ≤ m → k ≤ m
fewer m n k e h = omega arith

-- an object comes
pub created : (l : Layout) (s : State) (d : ObjectChange) → IsValid l s → Fits l s (Create d) → IsValid l (apply l s (Create d))
created l s d v f =
    let g : CreationAgrees l s d = f.agrees in
    let k = faultless l s (Create d) f.faultless in
    let below = other_number d.object last_number k.number in
    let free : object s d.object ≡ None = g.free below in
    let n = neither (is_some (object_named s d.name)) (is_some (variable s d.name)) k.name in
    let found = found_insert nat_cmp_total exact_unsigned s.objects d.object (object_of d) in
    let here : IsInstance l (object_of d) = record { known = g.known; concrete = k.concrete; whole = g.whole; values = g.values } in
    let objects : ObjectsAreValid l (insert_entry nat_cmp s.objects d.object (object_of d)) d.after = record {
      ordered = sorted_insert nat_cmp_total s.objects d.object (object_of d) v.objects.ordered;
      fit = room_for max_objects (length s.objects) _ k.object_room (length_insert nat_cmp s.objects d.object (object_of d) free);
      counter = g.after;
      instances = λ o x e. ⊎_elim (λ new. subst (IsInstance l) new.1 here) (λ old. v.objects.instances o x old) (found o x e);
      names = λ o p x y e e' same. ⊎_elim
          (λ new. ⊎_elim (λ new'. new.0 ∙ sym new'.0) (λ old'. absurd (name_free s d.name n.0 p y old' (sym same
          ∙ sym (ap (λ (z : Object). z.name) new.1)))) (found p y e'))
          (λ old. ⊎_elim (λ new'. absurd (name_free s d.name n.0 o x old (same ∙ sym (ap (λ (z : Object). z.name) new'.1))))
          (λ old'. v.objects.names o p x y old old' same) (found p y e'))
          (found o x e);
      below = λ o x e. ⊎_elim (λ new. subst (λ (z : ℕ). z < d.after) (sym new.0) (g.number below)) (λ old. g.others below o x old) (found o x e);
    } in
    record {
      objects = objects;
      links = v.links;
      variables = v.variables;
      apart = λ o x e. ⊎_elim (λ new. ap (λ (z : Object). variable s z.name) (sym new.1) ∙ not_some (variable s d.name) n.1) (λ old. v.apart o x old)
          (found o x e);
      joins = λ key pair e. let j = v.joins key pair e in
          let stay : (o : ℕ) (x : Object) → object s o ≡ Some x → (y : Object) × (object (apply l s (Create d)) o ≡ Some y) × (y.class ≡ x.class)
          = λ o x e. (x, kept_insert nat_cmp_total exact_unsigned s.objects d.object (object_of d) o x free e, refl) in
          record {
            first = stands_on l s (apply l s (Create d)) key.0 First pair.0 (stay pair.0) j.first;
            second = stands_on l s (apply l s (Create d)) key.0 Second pair.1 (stay pair.1) j.second;
          };
      light = stays_light l s (Create d) v f;
    }

-- an object goes
pub removed : (l : Layout) (s : State) (d : ObjectChange) → IsValid l s → Fits l s (Remove d) → IsValid l (apply l s (Remove d))
removed l s d v f =
    let g : RemovalAgrees l s d = f.agrees in
    let k = live (object s d.object) (faultless l s (Remove d) f.faultless).live in
    let found = λ (o : ℕ) (x : Object). found_remove nat_cmp_total exact_unsigned s.objects d.object o x v.objects.ordered in
    let objects : ObjectsAreValid l (remove_entry (is_at (nat_cmp d.object)) s.objects) d.after = record {
      ordered = sorted_remove nat_cmp_total (is_at (nat_cmp d.object)) s.objects v.objects.ordered;
      fit = fewer max_objects (length s.objects) _ (length_remove (is_at (nat_cmp d.object)) s.objects k.0 k.1) v.objects.fit;
      counter = g.after;
      instances = λ o x e. v.objects.instances o x (found o x e).0;
      names = λ o p x y e e' same. v.objects.names o p x y (found o x e).0 (found p y e').0 same;
      below = λ o x e. g.others o x (found o x e).0 (found o x e).1;
    } in
    record {
      objects = objects;
      links = v.links;
      variables = v.variables;
      apart = λ o x e. v.apart o x (found o x e).0;
      joins = λ key pair e. let j = v.joins key pair e in
          let away = g.unlinked key pair e in
          let stay : (o : ℕ) → o ≢ d.object → (x : Object) → object s o ≡ Some x → (y : Object) × (object (apply l s (Remove d)) o ≡ Some y) ×
          (y.class ≡ x.class)
          = λ o ne x e. (x, kept_remove nat_cmp_total exact_unsigned s.objects d.object o x v.objects.ordered ne e, refl) in
          record {
            first = stands_on l s (apply l s (Remove d)) key.0 First pair.0 (stay pair.0 away.0) j.first;
            second = stands_on l s (apply l s (Remove d)) key.0 Second pair.1 (stay pair.1 away.1) j.second;
          };
      light = stays_light l s (Remove d) v f;
    }

-- a slot gets another value
whole_set_at : (l : Layout) (p : Option ℕ) (x : Object) (v : Value) → IsInstance l x → IsWellMade v → IsInstance l (set_at p x v)
whole_set_at l None x v i w = i
whole_set_at l (Some at) x v i w = record {
  known = i.known;
  concrete = i.concrete;
  whole = length-set x.slots at v
      ∙ i.whole;
  values = All-set IsWellMade x.slots at v w i.values;
}

pub set : (l : Layout) (s : State) (o a : ℕ) (old new : Value) → IsValid l s → Fits l s (SetSlot o a old new) → IsValid l (apply l s (SetSlot o a old new))
set l s o a old new v f =
    let g : SettingAgrees l s o a old new = f.agrees in
    let k = live (object s o) (faultless l s (SetSlot o a old new) f.faultless).live in
    let at = place l (k.0).class a in
    let x' = with_slot l k.0 a new in
    let t = with_object s o x' in
    let same = apply_set l s o a old new k.0 k.1 in
    let found = λ (p : ℕ) (y : Object). found_set nat_cmp_total exact_unsigned s.objects o x' k.0 p y k.1 in
    let name : x'.name ≡ (k.0).name = name_set_at at k.0 new in
    let class : x'.class ≡ (k.0).class = class_set_at at k.0 new in
    let named : (p : ℕ) (y : Object) → object t p ≡ Some y → (z : Object) × (object s p ≡ Some z) × (y.name ≡ z.name)
    = λ p y e. ⊎_elim (λ new. (
      k.0,
      ap (λ (q : ℕ). object s q) new.0 ∙ k.1,
      ap (λ (z : Object). z.name) (sym new.1)
          ∙ name,
    )) (λ old. (y, old, refl)) (found p y e) in
    let objects : ObjectsAreValid l t.objects s.next_object = record {
      ordered = subst (IsStrictlySortedBy nat_cmp) (sym (keys-set_value (is_at (nat_cmp o)) s.objects x')) v.objects.ordered;
      fit = subst (λ (n : ℕ). n ≤ max_objects) (sym (length-set_value (is_at (nat_cmp o)) s.objects x')) v.objects.fit;
      counter = v.objects.counter;
      instances = λ p y e. ⊎_elim (λ new. subst (IsInstance l) new.1 (whole_set_at l at k.0 _ (v.objects.instances o k.0 k.1) g.values.1))
          (λ old. v.objects.instances p y old) (found p y e);
      names = λ p q y z e e' same. let r = named p y e in let r' = named q z e' in v.objects.names p q r.0 r'.0 r.1 r'.1 (sym r.2 ∙ same ∙ r'.2);
      below = λ p y e. let r = named p y e in v.objects.below p r.0 r.1;
    } in
    let stay : (p : ℕ) (x : Object) → object s p ≡ Some x → (y : Object) × (object t p ≡ Some y) × (y.class ≡ x.class)
    = λ p x e. by_number p o (λ eq. (
      x',
      ap (λ (q : ℕ). object t q) eq ∙ lookup_set_here (is_at (nat_cmp o)) s.objects k.0 x' k.1,
      class ∙ ap (λ (z : Object). z.class) (inside_some k.0 x (sym k.1 ∙ ap (λ (q : ℕ). object s q) (sym eq) ∙ e)),
    ))
    (λ ne. (x, kept_set nat_cmp_total exact_unsigned s.objects o x' k.0 p k.1 ne ∙ e, refl)) in
    let valid : IsValid l t = record {
      objects = objects;
      links = v.links;
      variables = v.variables;
      apart = λ p y e. let r = named p y e in ap (λ (n : List ℕ). variable s n) r.2 ∙ v.apart p r.0 r.1;
      joins = λ key pair e. let j = v.joins key pair e in record {
        first = stands_on l s t key.0 First pair.0 (stay pair.0) j.first;
        second = stands_on l s t key.0 Second pair.1 (stay pair.1) j.second;
      };
      light = subst (λ (u : State). weight u ≤ max_weight) same (stays_light l s (SetSlot o a old new) v f);
    } in
    subst (IsValid l) (sym same) valid

-- a link comes
pub linked : (l : Layout) (s : State) (d : LinkChange) → IsValid l s → Fits l s (Link d) → IsValid l (apply l s (Link d))
linked l s d v f =
    let g : LinkingAgrees l s d = f.agrees in
    let k = faultless l s (Link d) f.faultless in
    let below = other_number d.stamp last_number k.number in
    let ends = ends_live s d k.live in
    let none = not_stamped (stamp_of s d.assoc d.first d.second) k.fresh in
    let found = found_insert link_total link_exact s.links (d.assoc, d.stamp) (d.first, d.second) in
    let links : LinksAreValid (insert_entry link_cmp s.links (d.assoc, d.stamp) (d.first, d.second)) d.after = record {
      ordered = sorted_insert link_total s.links (d.assoc, d.stamp) (d.first, d.second) v.links.ordered;
      fit = room_for max_links (length s.links) _ k.link_room (length_insert link_cmp s.links (d.assoc, d.stamp) (d.first, d.second) (link_free l s d f));
      counter = g.ends.after;
      once = λ m n p e e' same. ⊎_elim
          (λ new. ⊎_elim (λ new'. ap (λ (z : ℕ × ℕ). z.1) (new.0 ∙ sym new'.0))
          (λ old'. absurd (link_missing s d.assoc d.first d.second none n (old' ∙ ap (λ (z : ℕ × ℕ). Some z) (sym new.1)) (sym same
          ∙ ap (λ (z : ℕ × ℕ). z.0) new.0))) (found n p e'))
          (λ old. ⊎_elim (λ new'. absurd (link_missing s d.assoc d.first d.second none m (old ∙ ap (λ (z : ℕ × ℕ). Some z) (sym new'.1)) (same
          ∙ ap (λ (z : ℕ × ℕ). z.0) new'.0)))
          (λ old'. v.links.once m n p old old' same) (found n p e'))
          (found m p e);
      stamps = λ m n p q e e' same. ⊎_elim
          (λ new. ⊎_elim (λ new'. ap (λ (z : ℕ × ℕ). z.0) (new.0 ∙ sym new'.0))
          (λ old'. absurd (g.free below n q old' (sym same ∙ ap (λ (z : ℕ × ℕ). z.1) new.0))) (found n q e'))
          (λ old. ⊎_elim (λ new'. absurd (g.free below m p old (same ∙ ap (λ (z : ℕ × ℕ). z.1) new'.0))) (λ old'. v.links.stamps m n p q old old' same)
          (found n q e'))
          (found m p e);
      below = λ m p e. ⊎_elim (λ new. subst (λ (z : ℕ × ℕ). z.1 < d.after) (sym new.0) (g.stamp below)) (λ old. g.others below m p old) (found m p e);
    } in
    record {
      objects = v.objects;
      links = links;
      variables = v.variables;
      apart = v.apart;
      joins = λ m p e. ⊎_elim
          (λ new. subst (λ (z : ℕ). Joins l (apply l s (Link d)) z p) (sym (ap (λ (z : ℕ × ℕ). z.0) new.0)) (subst (Joins l (apply l s (Link d)) d.assoc) new.1
          (record {
            first = ap (λ (u : Option Object). option_map_or (λ (x : Object). may_stand l d.assoc First x.class) u false) ends.0.1
                ∙ g.ends.first ends.0.0 ends.0.1;
            second = ap (λ (u : Option Object). option_map_or (λ (x : Object). may_stand l d.assoc Second x.class) u false) ends.1.1
                ∙ g.ends.second ends.1.0 ends.1.1;
          })))
          (λ old. let j = v.joins m p old in record { first = j.first; second = j.second })
          (found m p e);
      light = stays_light l s (Link d) v f;
    }

-- a link goes
pub unlinked : (l : Layout) (s : State) (d : LinkChange) → IsValid l s → Fits l s (Unlink d) → IsValid l (apply l s (Unlink d))
unlinked l s d v f =
    let g : UnlinkingAgrees l s d = f.agrees in
    let k = faultless l s (Unlink d) f.faultless in
    let there = stamp_is l s d v.links.ordered g (turned (is_linked s d) k.there) in
    let found = λ (m p : ℕ × ℕ). found_remove link_total link_exact s.links (d.assoc, d.stamp) m p v.links.ordered in
    let links : LinksAreValid (remove_entry (is_at (link_cmp (d.assoc, d.stamp))) s.links) d.after = record {
      ordered = sorted_remove link_total (is_at (link_cmp (d.assoc, d.stamp))) s.links v.links.ordered;
      fit = fewer max_links (length s.links) _ (length_remove (is_at (link_cmp (d.assoc, d.stamp))) s.links (d.first, d.second) there) v.links.fit;
      counter = g.ends.after;
      once = λ m n p e e' same. v.links.once m n p (found m p e).0 (found n p e').0 same;
      stamps = λ m n p q e e' same. v.links.stamps m n p q (found m p e).0 (found n q e').0 same;
      below = λ m p e. let r = found m p e in
          g.others m p r.0 (λ same. r.1 (λ i. (v.links.stamps m (d.assoc, d.stamp) p (d.first, d.second) r.0 there same i, same i)));
    } in
    record {
      objects = v.objects;
      links = links;
      variables = v.variables;
      apart = v.apart;
      joins = λ m p e. let j = v.joins m p (found m p e).0 in record { first = j.first; second = j.second };
      light = stays_light l s (Unlink d) v f;
    }

-- a variable gets a value
pub bound : (l : Layout) (s : State) (name : List ℕ) (old : Option Variable) (new : Variable) → IsValid l s → Fits l s (Bind name old new)
    → IsValid l (apply l s (Bind name old new))
bound l s name old new v f =
    let g : BindingAgrees s name old new = f.agrees in
    let k = faultless l s (Bind name old new) f.faultless in
    let found = found_insert nat_list_cmp_total exact_bytes s.variables name new in
    record {
      objects = v.objects;
      links = v.links;
      variables = record {
        ordered = sorted_insert nat_list_cmp_total s.variables name new v.variables.ordered;
        values = λ n w e. ⊎_elim (λ here. subst (λ (z : Variable). IsWellMade z.value) here.1 g.value) (λ old. v.variables.values n w old) (found n w e);
      };
      apart = λ o x e. absent (variable (apply l s (Bind name old new)) x.name) (λ w h.
          ⊎_elim (λ here. name_free s name k.name o x e here.0) (λ old. some≢none w (sym old ∙ v.apart o x e)) (found x.name w h));
      joins = λ m p e. let j = v.joins m p e in record { first = j.first; second = j.second };
      light = stays_light l s (Bind name old new) v f;
    }

-- a variable goes
pub unbound : (l : Layout) (s : State) (name : List ℕ) (old : Variable) → IsValid l s → Fits l s (Unbind name old) → IsValid l (apply l s (Unbind name old))
unbound l s name old v f =
    let found = λ (n : List ℕ) (w : Variable). found_remove nat_list_cmp_total exact_bytes s.variables name n w v.variables.ordered in
    record {
      objects = v.objects;
      links = v.links;
      variables = record {
        ordered = sorted_remove nat_list_cmp_total (is_at (text_cmp name)) s.variables v.variables.ordered;
        values = λ n w e. v.variables.values n w (found n w e).0;
      };
      apart = λ o x e. absent (variable (apply l s (Unbind name old)) x.name) (λ w h. some≢none w (sym (found x.name w h).0 ∙ v.apart o x e));
      joins = λ m p e. let j = v.joins m p e in record { first = j.first; second = j.second };
      light = stays_light l s (Unbind name old) v f;
    }

pub stays_valid : (l : Layout) (s : State) (c : Change) → IsValid l s → Fits l s c → IsValid l (apply l s c)
stays_valid l s (Create d) v f = created l s d v f
stays_valid l s (Remove d) v f = removed l s d v f
stays_valid l s (SetSlot o a old new) v f = set l s o a old new v f
stays_valid l s (Link d) v f = linked l s d v f
stays_valid l s (Unlink d) v f = unlinked l s d v f
stays_valid l s (Bind name old new) v f = bound l s name old new v f
stays_valid l s (Unbind name old) v f = unbound l s name old v f
