-- What takes a change back fits the state after it.
use Rattle.std.proofs.Common.{◌≡◌, ◌≢◌, ◌⊎◌, inl, inr, ⊎_elim, ℕ, ◌+◌, ◌≤◌, ◌<◌, zero, suc, Bool, true, false, cond, not, ◌&&◌, ◌||◌, List, [], ◌∷◌, length, slice_set, Option, Some, None, refl, sym, ap, ◌∙◌, subst, true≢false, arith}
use Rattle.std.specs.BTreeMap.{insert_entry, is_at}
use Rattle.std.specs.Cmp.{nat_cmp_total}
use Rattle.std.specs.Cmp.Lexicographic.{bytes_decides, nat_list_cmp_total, pointwise}
use Rattle.std.specs.List.{find, slice_get}
use Rattle.std.specs.List.Sorted.{IsStrictlySortedBy}
use Rattle.std.specs.Map.{keys_of, lookup, remove_entry}
use Rattle.std.specs.Option.{is_some, option_and_then, option_map, option_map_or}
use Rattle.std.specs.Ordering.{nat_cmp}
use Rattle.std.specs.Prelude.{nat_eq, nat_le, nat_lt}
use Rattle.std.proofs.lemmas.Bool.{eqb-true, leb-true, ltb-true}
use Rattle.std.proofs.lemmas.Map.Lookups.{exact_bytes, exact_unsigned}
use Rattle.ocl_values.specs.declared.value.Value.{Value}
use Rattle.class_model.specs.declared.numbers.End.{End}
use Rattle.class_model.specs.declared.numbers.End.TheVariants.{First, Second}
use Rattle.object_state.specs.declared.change.Change.{Change}
use Rattle.object_state.specs.declared.change.Change.TheVariants.{Create, Remove, SetSlot, Link, Unlink, Bind, Unbind}
use Rattle.object_state.specs.declared.change.LinkChange.{LinkChange}
use Rattle.object_state.specs.declared.change.ObjectChange.{ObjectChange}
use Rattle.object_state.specs.declared.layout.Layout.{Layout}
use Rattle.object_state.specs.declared.objects.Object.{Object}
use Rattle.object_state.specs.declared.objects.Variable.{Variable}
use Rattle.object_state.specs.declared.store_fault.StoreFault.{StoreFault}
use Rattle.object_state.specs.Changes.{apply, inverse, link_back, object_back, object_of, unbinding, with_object, with_slot}
use Rattle.object_state.specs.Faults.{BindingAgrees, CreationAgrees, EndsAgree, Fits, LinkingAgrees, RemovalAgrees, SettingAgrees, UnlinkingAgrees, fault, grows_too_large, is_gone, is_linked}
use Rattle.object_state.specs.Layouts.{may_stand, place, slot}
use Rattle.object_state.specs.Looks.{stands}
use Rattle.object_state.specs.State.{State, link, link_cmp, object, object_named, stamp_of, text_cmp, variable}
use Rattle.object_state.specs.Valid.{IsValid, last_number, max_links, max_objects, max_weight}
use Rattle.object_state.specs.Weights.{gained, lost, variable_weight, weight}
use Rattle.object_state.proofs.Back.{Faultless, apply_set, class_set_at, ends_live, faultless, inside_some, link_exact, link_found, link_free, link_missing, link_total, live, other_number, set_at, stamp_is, turned}
use Rattle.object_state.proofs.Keyed.{by_test, find_some, found_insert, found_remove, gone_remove, length_remove, lookup_set_here, put_insert, some≢none, sorted_remove}
use Rattle.object_state.proofs.Kept.{name_free, not_some, not_stamped}
use Rattle.object_state.proofs.Weighed.{weighs}

no_fault : {X : Type 0} (b : Bool) (f : X) (o : Option X) → b ≡ false → o ≡ None → cond b (Some f) o ≡ None
no_fault true f o h k = absurd (true≢false h)
no_fault false f o h k = k

clear : (l : Layout) (s : State) (c : Change) → Faultless l s c → fault l s c ≡ None
clear l s c k =
    no_fault _ _ _ k.name (no_fault _ _ _ k.concrete (no_fault _ _ _ k.fresh (no_fault _ _ _ k.there (no_fault _ _ _ k.live
    (no_fault _ _ _ k.object_room (no_fault _ _ _ k.link_room (no_fault _ _ _ k.number (no_fault _ _ _ k.light refl))))))))

-- tests that fail
not_true : (b : Bool) → (b ≡ true → ⊥) → b ≡ false
not_true true h = absurd (h refl)
not_true false h = refl

second_false : (a b : Bool) → b ≡ false → (a && b) ≡ false
second_false true b h = h
second_false false b h = refl

neither_true : (a b : Bool) → a ≡ false → b ≡ false → (a || b) ≡ false
neither_true true b h k = absurd (true≢false h)
neither_true false b h k = k

turned_off : (b : Bool) → b ≡ true → not b ≡ false
turned_off true h = refl
turned_off false h = absurd (true≢false (sym h))

-- gains and losses change places
gained_back : (name : List ℕ) (new : Variable) (old : Option Variable) → gained (unbinding name new old) ≡ option_map_or variable_weight old 0
gained_back name new None = refl
gained_back name new (Some old) = refl

lost_back : (name : List ℕ) (new : Variable) (old : Option Variable) → lost (unbinding name new old) ≡ variable_weight new
lost_back name new None = refl
lost_back name new (Some old) = refl

gains : (c : Change) → gained (inverse c) ≡ lost c
gains (Create d) = refl
gains (Remove d) = refl
gains (SetSlot o a old new) = refl
gains (Link d) = refl
gains (Unlink d) = refl
gains (Bind name old new) = gained_back name new old
gains (Unbind name old) = refl

loses : (c : Change) → lost (inverse c) ≡ gained c
loses (Create d) = refl
loses (Remove d) = refl
loses (SetSlot o a old new) = refl
loses (Link d) = refl
loses (Unlink d) = refl
loses (Bind name old new) = lost_back name new old
loses (Unbind name old) = refl

within : (w w' m lo ga : ℕ) → w' + lo ≡ w + ga → w ≤ m → m + ga < w' + lo → ⊥
within w w' m lo ga e h k = omega arith

stays_small : (l : Layout) (s : State) (c : Change) → IsValid l s → Fits l s c → grows_too_large (apply l s c) (inverse c) ≡ false
stays_small l s c v f =
    second_false (nat_lt (lost (inverse c)) (gained (inverse c))) (nat_lt (max_weight + lost (inverse c)) (weight (apply l s c) + gained (inverse c)))
    (not_true _ (λ t.
    let up = ltb-true (max_weight + lost (inverse c)) (weight (apply l s c) + gained (inverse c)) t in
    let up' = subst (λ (z : ℕ). max_weight + z < weight (apply l s c) + gained (inverse c)) (loses c) up in
    let up'' = subst (λ (z : ℕ). max_weight + gained c < weight (apply l s c) + z) (gains c) up' in
    within (weight s) (weight (apply l s c)) max_weight (lost c) (gained c) (weighs l s c v f) v.light up''))

there : {X : Type 0} (u : Option X) (x : X) → u ≡ Some x → not (is_some u) ≡ false
there u x e = ap (λ z. not (is_some z)) e

-- who stands is live
stands_live : (l : Layout) (s : State) (a : ℕ) (e : End) (o : ℕ) → stands l s a e o ≡ true → (x : Object) × (object s o ≡ Some x)
stands_live l s a e o h = by (object s o) refl h
  where
    by : (u : Option Object) → object s o ≡ u → option_map_or (λ (x : Object). may_stand l a e x.class) u false ≡ true → (x : Object) × (object s o ≡ Some x)
    by None q k = absurd (true≢false (sym k))
    by (Some x) q k = (x, q)

-- a name that no object has is not found
unnamed : (s : State) (n : List ℕ) → IsStrictlySortedBy nat_cmp (keys_of s.objects) → ((o : ℕ) (x : Object) → object s o ≡ Some x → x.name ≡ n → ⊥)
    → is_some (object_named s n) ≡ false
unnamed s n up none = by (find (λ (e : ℕ × Object). pointwise nat_eq e.1.name n) s.objects) refl
  where
    by : (u : Option (ℕ × Object)) → find (λ (e : ℕ × Object). pointwise nat_eq e.1.name n) s.objects ≡ u → is_some (option_map (λ e. e.0) u) ≡ false
    by None q = refl
    by (Some e) q = let r = find_some nat_cmp_total (λ (e : ℕ × Object). pointwise nat_eq e.1.name n) s.objects e q up
        in absurd (none e.0 e.1 r.0 ((bytes_decides e.1.name n).0 r.1))

-- a pair that no link has is not found, and one that a link has is
unlinked : (s : State) (a f g : ℕ) → IsStrictlySortedBy link_cmp (keys_of s.links) → ((k : ℕ × ℕ) → link s k ≡ Some (f, g) → k.0 ≡ a → ⊥)
    → is_some (stamp_of s a f g) ≡ false
unlinked s a f g up none = by (find (λ (e : (ℕ × ℕ) × (ℕ × ℕ)). nat_eq e.0.0 a && nat_eq e.1.0 f && nat_eq e.1.1 g) s.links) refl
  where
    by : (u : Option ((ℕ × ℕ) × (ℕ × ℕ))) → find (λ (e : (ℕ × ℕ) × (ℕ × ℕ)). nat_eq e.0.0 a && nat_eq e.1.0 f && nat_eq e.1.1 g) s.links ≡ u
        → is_some (option_map (λ e. e.0.1) u) ≡ false
    by None q = refl
    by (Some e) q = let r = link_found s a f g e q up in absurd (none e.0 r.0 r.1)

is_there : (s : State) (a t f g : ℕ) → link s (a, t) ≡ Some (f, g) → is_some (stamp_of s a f g) ≡ true
is_there s a t f g e = by_test (is_some (stamp_of s a f g)) (λ y. y) (λ n. absurd (link_missing s a f g (not_stamped _ n) (a, t) e refl))

under : (a b c : ℕ) → a ≡ b → b ≤ c → a ≤ c
under a b c e h = omega arith

below_counter : (o n b : ℕ) → b ≡ n → o < n → o < b
below_counter o n b e h = omega arith

not_last : (o n : ℕ) → o < n → n ≤ last_number → nat_eq o last_number ≡ false
not_last o n h k = not_true (nat_eq o last_number) (λ t. let e = eqb-true o last_number t in absurd (omega arith))

has_room : (m n k : ℕ) → suc k ≡ n → n ≤ m → nat_le m k ≡ false
has_room m n k e h = not_true (nat_le m k) (λ t. let u = leb-true m k t in absurd (omega arith))

created : (l : Layout) (s : State) (d : ObjectChange) → IsValid l s → Fits l s (Create d) → Fits l (apply l s (Create d)) (Remove (object_back d))
created l s d v f =
    let g : CreationAgrees l s d = f.agrees in
    let k = faultless l s (Create d) f.faultless in
    let free : object s d.object ≡ None = g.free (other_number d.object last_number k.number) in
    let t = apply l s (Create d) in
    let put : object t d.object ≡ Some (object_of d) = put_insert nat_cmp_total exact_unsigned s.objects d.object (object_of d) in
    let agrees : RemovalAgrees l t (object_back d) = record {
      known = g.known;
      values = g.values;
      before = refl;
      after = under d.before s.next_object last_number g.before v.objects.counter;
      same = λ x e. inside_some x (object_of d) (sym e ∙ put);
      unlinked = λ key pair e. let j = v.joins key pair e in (
        λ same. let x = stands_live l s key.0 First pair.0 j.first in some≢none x.0 (sym x.1 ∙ ap (λ (z : ℕ). object s z) same ∙ free),
        λ same. let x = stands_live l s key.0 Second pair.1 j.second in some≢none x.0 (sym x.1 ∙ ap (λ (z : ℕ). object s z) same ∙ free),
      );
      others = λ o x e ne. ⊎_elim (λ new. absurd (ne new.0)) (λ old. below_counter o s.next_object d.before g.before (v.objects.below o x old))
          (found_insert nat_cmp_total exact_unsigned s.objects d.object (object_of d) o x e);
    } in
    let clean : Faultless l t (Remove (object_back d)) = record {
      name = refl;
      concrete = refl;
      fresh = refl;
      there = refl;
      live = there (object t d.object) (object_of d) put;
      object_room = refl;
      link_room = refl;
      number = refl;
      light = stays_small l s (Create d) v f;
    } in
    record { agrees = agrees; faultless = clear l t (Remove (object_back d)) clean }

removed : (l : Layout) (s : State) (d : ObjectChange) → IsValid l s → Fits l s (Remove d) → Fits l (apply l s (Remove d)) (Create (object_back d))
removed l s d v f =
    let g : RemovalAgrees l s d = f.agrees in
    let k = live (object s d.object) (faultless l s (Remove d) f.faultless).live in
    let x : k.0 ≡ object_of d = g.same k.0 k.1 in
    let was : object s d.object ≡ Some (object_of d) = k.1 ∙ ap (λ (z : Object). Some z) x in
    let instance = v.objects.instances d.object (object_of d) was in
    let t = apply l s (Remove d) in
    let found = λ (o : ℕ) (x : Object). found_remove nat_cmp_total exact_unsigned s.objects d.object o x v.objects.ordered in
    let below = v.objects.below d.object (object_of d) was in
    let agrees : CreationAgrees l t (object_back d) = record {
      known = g.known;
      whole = instance.whole;
      values = g.values;
      before = refl;
      after = under d.before s.next_object last_number g.before v.objects.counter;
      free = λ ne. gone_remove nat_cmp_total exact_unsigned s.objects d.object v.objects.ordered;
      number = λ ne. below_counter d.object s.next_object d.before g.before below;
      others = λ ne o x e. below_counter o s.next_object d.before g.before (v.objects.below o x (found o x e).0);
    } in
    let clean : Faultless l t (Create (object_back d)) = record {
      name = neither_true (is_some (object_named t d.name)) (is_some (variable t d.name))
          (unnamed t d.name (sorted_remove nat_cmp_total (is_at (nat_cmp d.object)) s.objects v.objects.ordered)
          (λ o x e same. let r = found o x e in r.1 (v.objects.names o d.object x (object_of d) r.0 was same)))
          (ap (λ (u : Option Variable). is_some u) (v.apart d.object (object_of d) was));
      concrete = instance.concrete;
      fresh = refl;
      there = refl;
      live = refl;
      object_room = has_room max_objects (length s.objects) _ (length_remove (is_at (nat_cmp d.object)) s.objects (object_of d) was) v.objects.fit;
      link_room = refl;
      number = not_last d.object s.next_object below v.objects.counter;
      light = stays_small l s (Remove d) v f;
    } in
    record { agrees = agrees; faultless = clear l t (Create (object_back d)) clean }

pub get_set : {X : Type 0} (xs : List X) (i : ℕ) (v w : X) → slice_get xs i ≡ Some v → slice_get (slice_set xs i w) i ≡ Some w
get_set [] i v w h = absurd (some≢none v (sym h))
get_set (x ∷ xs) zero v w h = refl
get_set (x ∷ xs) (suc i) v w h = get_set xs i v w h

slot_set_at : (p q : Option ℕ) (x : Object) (old new : Value) → option_and_then (slice_get x.slots) p ≡ Some old → q ≡ p
    → option_and_then (slice_get (set_at p x new).slots) q ≡ Some new
slot_set_at None q x old new h e = absurd (some≢none old (sym h))
slot_set_at (Some i) q x old new h e = ap (λ (u : Option ℕ). option_and_then (slice_get (slice_set x.slots i new)) u) e ∙ get_set x.slots i old new h

set : (l : Layout) (s : State) (o a : ℕ) (old new : Value) → IsValid l s → Fits l s (SetSlot o a old new)
    → Fits l (apply l s (SetSlot o a old new)) (SetSlot o a new old)
set l s o a old new v f =
    let g : SettingAgrees l s o a old new = f.agrees in
    let k = live (object s o) (faultless l s (SetSlot o a old new) f.faultless).live in
    let at = place l (k.0).class a in
    let x' = with_slot l k.0 a new in
    let t = with_object s o x' in
    let same = apply_set l s o a old new k.0 k.1 in
    let put : object t o ≡ Some x' = lookup_set_here (is_at (nat_cmp o)) s.objects k.0 x' k.1 in
    let agrees : SettingAgrees l t o a new old = record {
      values = (g.values.1, g.values.0);
      same = λ y e. subst (λ (z : Object). slot l z a ≡ Some new) (inside_some x' y (sym put ∙ e))
          (slot_set_at at (place l x'.class a) k.0 old new (g.same k.0 k.1) (ap (λ (c : ℕ). place l c a) (class_set_at at k.0 new)));
    } in
    let clean : Faultless l t (SetSlot o a new old) = record {
      name = refl;
      concrete = refl;
      fresh = refl;
      there = refl;
      live = there (object t o) x' put;
      object_room = refl;
      link_room = refl;
      number = refl;
      light = subst (λ (u : State). grows_too_large u (SetSlot o a new old) ≡ false) same (stays_small l s (SetSlot o a old new) v f);
    } in
    let fits : Fits l t (SetSlot o a new old) = record { agrees = agrees; faultless = clear l t (SetSlot o a new old) clean } in
    subst (λ (u : State). Fits l u (SetSlot o a new old)) (sym same) fits

linked : (l : Layout) (s : State) (d : LinkChange) → IsValid l s → Fits l s (Link d) → Fits l (apply l s (Link d)) (Unlink (link_back d))
linked l s d v f =
    let g : LinkingAgrees l s d = f.agrees in
    let k = faultless l s (Link d) f.faultless in
    let ends = ends_live s d k.live in
    let none = not_stamped (stamp_of s d.assoc d.first d.second) k.fresh in
    let t = apply l s (Link d) in
    let found = found_insert link_total link_exact s.links (d.assoc, d.stamp) (d.first, d.second) in
    let put : link t (d.assoc, d.stamp) ≡ Some (d.first, d.second) = put_insert link_total link_exact s.links (d.assoc, d.stamp) (d.first, d.second) in
    let agrees : UnlinkingAgrees l t (link_back d) = record {
      ends = record {
        known = g.ends.known;
        first = g.ends.first;
        second = g.ends.second;
        before = refl;
        after = under d.before s.next_stamp last_number
            g.ends.before v.links.counter;
      };
      same = λ m e eq. ⊎_elim (λ new. ap (λ (z : ℕ × ℕ). z.1) new.0) (λ old. absurd (link_missing s d.assoc d.first d.second none m old eq)) (found m
          (d.first, d.second) e);
      others = λ m p e ne. ⊎_elim (λ new. absurd (ne (ap (λ (z : ℕ × ℕ). z.1) new.0))) (λ old. below_counter m.1 s.next_stamp d.before g.ends.before
          (v.links.below m p old)) (found m p e);
    } in
    let clean : Faultless l t (Unlink (link_back d)) = record {
      name = refl;
      concrete = refl;
      fresh = refl;
      there = turned_off (is_linked t (link_back d)) (is_there t d.assoc d.stamp d.first d.second put);
      live = neither_true (is_gone t d.first) (is_gone t d.second) (there (object s d.first) ends.0.0 ends.0.1) (there (object s d.second) ends.1.0 ends.1.1);
      object_room = refl;
      link_room = refl;
      number = refl;
      light = stays_small l s (Link d) v f;
    } in
    record { agrees = agrees; faultless = clear l t (Unlink (link_back d)) clean }

unlinked_again : (l : Layout) (s : State) (d : LinkChange) → IsValid l s → Fits l s (Unlink d) → Fits l (apply l s (Unlink d)) (Link (link_back d))
unlinked_again l s d v f =
    let g : UnlinkingAgrees l s d = f.agrees in
    let k = faultless l s (Unlink d) f.faultless in
    let ends = ends_live s d k.live in
    let was = stamp_is l s d v.links.ordered g (turned (is_linked s d) k.there) in
    let below = v.links.below (d.assoc, d.stamp) (d.first, d.second) was in
    let t = apply l s (Unlink d) in
    let found = λ (m p : ℕ × ℕ). found_remove link_total link_exact s.links (d.assoc, d.stamp) m p v.links.ordered in
    let agrees : LinkingAgrees l t (link_back d) = record {
      ends = record {
        known = g.ends.known;
        first = g.ends.first;
        second = g.ends.second;
        before = refl;
        after = under d.before s.next_stamp last_number
            g.ends.before v.links.counter;
      };
      free = λ ne m p e same. let r = found m p e in
          r.1 (λ i. (v.links.stamps m (d.assoc, d.stamp) p (d.first, d.second) r.0 was same i, same i));
      stamp = λ ne. below_counter d.stamp s.next_stamp d.before g.ends.before below;
      others = λ ne m p e. below_counter m.1 s.next_stamp d.before g.ends.before (v.links.below m p (found m p e).0);
    } in
    let clean : Faultless l t (Link (link_back d)) = record {
      name = refl;
      concrete = refl;
      fresh = unlinked t d.assoc d.first d.second (sorted_remove link_total (is_at (link_cmp (d.assoc, d.stamp))) s.links v.links.ordered)
          (λ m e eq. let r = found m (d.first, d.second) e in r.1 (λ i. (eq i, v.links.once m (d.assoc, d.stamp) (d.first, d.second) r.0 was eq i)));
      there = refl;
      live = neither_true (is_gone t d.first) (is_gone t d.second) (there (object s d.first) ends.0.0 ends.0.1) (there (object s d.second) ends.1.0 ends.1.1);
      object_room = refl;
      link_room = has_room max_links (length s.links) _ (length_remove (is_at (link_cmp (d.assoc, d.stamp))) s.links (d.first, d.second) was) v.links.fit;
      number = not_last d.stamp s.next_stamp below v.links.counter;
      light = stays_small l s (Unlink d) v f;
    } in
    record { agrees = agrees; faultless = clear l t (Link (link_back d)) clean }

bound : (l : Layout) (s : State) (name : List ℕ) (old : Option Variable) (new : Variable) → IsValid l s → Fits l s (Bind name old new)
    → Fits l (apply l s (Bind name old new)) (unbinding name new old)
bound l s name None new v f =
    let t = apply l s (Bind name None new) in
    let put : variable t name ≡ Some new = put_insert nat_list_cmp_total exact_bytes s.variables name new in
    let clean : Faultless l t (Unbind name new) = record {
      name = refl;
      concrete = refl;
      fresh = refl;
      there = refl;
      live = refl;
      object_room = refl;
      link_room = refl;
      number = refl;
      light = stays_small l s (Bind name None new) v f;
    } in
    record { agrees = put; faultless = clear l t (Unbind name new) clean }
bound l s name (Some old) new v f =
    let g : BindingAgrees s name (Some old) new = f.agrees in
    let k = faultless l s (Bind name (Some old) new) f.faultless in
    let t = apply l s (Bind name (Some old) new) in
    let agrees : BindingAgrees t name (Some new) old = record {
      value = v.variables.values name old g.same;
      same = put_insert nat_list_cmp_total exact_bytes s.variables name new;
    } in
    let clean : Faultless l t (Bind name (Some new) old) = record {
      name = k.name;
      concrete = refl;
      fresh = refl;
      there = refl;
      live = refl;
      object_room = refl;
      link_room = refl;
      number = refl;
      light = stays_small l s (Bind name (Some old) new) v f;
    } in
    record { agrees = agrees; faultless = clear l t (Bind name (Some new) old) clean }

unbound : (l : Layout) (s : State) (name : List ℕ) (old : Variable) → IsValid l s → Fits l s (Unbind name old)
    → Fits l (apply l s (Unbind name old)) (Bind name None old)
unbound l s name old v f =
    let g : variable s name ≡ Some old = f.agrees in
    let t = apply l s (Unbind name old) in
    let agrees : BindingAgrees t name None old = record {
      value = v.variables.values name old g;
      same = gone_remove nat_list_cmp_total exact_bytes s.variables name v.variables.ordered;
    } in
    let clean : Faultless l t (Bind name None old) = record {
      name = unnamed s name v.objects.ordered (λ o x e same. some≢none old (sym g ∙ ap (λ (n : List ℕ). variable s n) (sym same) ∙ v.apart o x e));
      concrete = refl;
      fresh = refl;
      there = refl;
      live = refl;
      object_room = refl;
      link_room = refl;
      number = refl;
      light = stays_small l s (Unbind name old) v f;
    } in
    record { agrees = agrees; faultless = clear l t (Bind name None old) clean }

pub fits_back : (l : Layout) (s : State) (c : Change) → IsValid l s → Fits l s c → Fits l (apply l s c) (inverse c)
fits_back l s (Create d) v f = created l s d v f
fits_back l s (Remove d) v f = removed l s d v f
fits_back l s (SetSlot o a old new) v f = set l s o a old new v f
fits_back l s (Link d) v f = linked l s d v f
fits_back l s (Unlink d) v f = unlinked_again l s d v f
fits_back l s (Bind name old new) v f = bound l s name old new v f
fits_back l s (Unbind name old) v f = unbound l s name old v f
