-- Objects and their indexes, with one more, one less, or another value of one.
use Rattle.std.proofs.Common.{◌≡◌, ◌<◌, ◌^◌, ◌⊎◌, ◌↔◌, inl, inr, ℕ, true, false, List, [], slice_set, Ordering, Option, Some, None, refl, sym, ap, ◌∙◌}
use Rattle.std.proofs.Common.{subst}
use Rattle.std.specs.BTreeMap.{insert_entry, is_at}
use Rattle.std.specs.Cmp.{nat_cmp_total}
use Rattle.std.specs.List.{list_any}
use Rattle.std.specs.List.Sorted.{IsStrictlySortedBy}
use Rattle.std.specs.Map.{lookup, remove_entry, set_value, update}
use Rattle.std.specs.Option.{option_map_or}
use Rattle.std.specs.Ordering.{nat_cmp}
use Rattle.std.specs.Prelude.{nat_eq}
use Rattle.std.specs.Str.{bytes_eq}
use Rattle.std.proofs.lemmas.Map.{keys-set_value}
use Rattle.std.proofs.lemmas.Map.Lookups.{exact_unsigned}
use Rattle.ocl_values.specs.declared.value.Value.{Value}
use Rattle.object_state.specs.declared.change.ObjectChange.{ObjectChange}
use Rattle.object_state.specs.declared.layout.Layout.{Layout}
use Rattle.object_state.specs.declared.objects.Object.{Object}
use Rattle.object_state.specs.Changes.{object_of, with_slot}
use Rattle.object_state.specs.Layouts.{ancestors, is_a, place}
use Rattle.object_state.specs.State.{link_cmp}
use Rattle.object_state.proofs.Keyed.{found_insert, found_remove, found_set, some≢none, sorted_insert, sorted_remove}
use Rattle.object_store.specs.Indexes.{ObjectsAreTied, has_class, has_pair, is_one, named_in, object_in}
use Rattle.object_store.proofs.Classed.{classed_less, classed_more, classed_same, classed_set}
use Rattle.object_store.proofs.Named.{name_free, named_less, named_more, named_set}

slot_name : (l : Layout) (x : Object) (a : ℕ) (v : Value) → (with_slot l x a v).name ≡ x.name
slot_name l x a v = by (place l x.class a)
  where
    by : (u : Option ℕ) → (option_map_or (λ (i : ℕ). record { name = x.name; class = x.class; slots = slice_set x.slots i v }) u x).name ≡ x.name
    by None = refl
    by (Some i) = refl

slot_class : (l : Layout) (x : Object) (a : ℕ) (v : Value) → (with_slot l x a v).class ≡ x.class
slot_class l x a v = by (place l x.class a)
  where
    by : (u : Option ℕ) → (option_map_or (λ (i : ℕ). record { name = x.name; class = x.class; slots = slice_set x.slots i v }) u x).class ≡ x.class
    by None = refl
    by (Some i) = refl

module _ (l : Layout) (objects : List (ℕ × Object)) (numbers : List ℕ → Option ℕ) (extents : List (ℕ × ℕ))
    (tied : ObjectsAreTied l objects numbers extents) where
  -- the number of no object is in no extent
  pub class_free : (o c : ℕ) → object_in objects o ≡ None → has_pair extents c o ≡ false
  class_free o c free = tied.extents_tied c o ∙ ap (λ (u : Option Object). has_class l u c) free

  -- the name of no object is free
  pub fresh_name : (n : List ℕ) → named_in objects n ≡ None → numbers n ≡ None
  fresh_name n h = name_free (λ (x : Object). x.name) objects numbers tied.names_tied n h

  module _ (extents' : List (ℕ × ℕ)) (up : IsStrictlySortedBy link_cmp extents') (d : ObjectChange)
      (others : (c o : ℕ) → is_one (ancestors l d.class) d.object c o ≡ false → has_pair extents' c o ≡ has_pair extents c o) where
    pub object_more : (numbers' : List ℕ → Option ℕ) → ((n : List ℕ) → numbers' n ≡ update bytes_eq numbers d.name (Some d.object) n)
        → ((c : ℕ) → list_any (nat_eq c) (ancestors l d.class) ≡ true → has_pair extents' c d.object ≡ true)
        → object_in objects d.object ≡ None → named_in objects d.name ≡ None → d.object < 2 ^ 32
        → ObjectsAreTied l (insert_entry nat_cmp objects d.object (object_of d)) numbers' extents'
    object_more numbers' more there free fresh small = record {
      ordered = sorted_insert nat_cmp_total objects d.object (object_of d) tied.ordered;
      extents_ordered = up;
      small = λ o x e. below o x (found_insert nat_cmp_total exact_unsigned objects d.object (object_of d) o x e);
      names_tied = named_more (λ (x : Object). x.name) objects numbers tied.names_tied d.object (object_of d) numbers' more free (fresh_name d.name fresh);
      extents_tied = classed_more (λ (x : Object) c. is_a l x.class c) objects extents extents' tied.extents_tied d.object (object_of d) (ancestors l d.class)
          (λ c. refl) others there free;
    }
      where
        below : (o : ℕ) (x : Object) → ((o ≡ d.object) × (object_of d ≡ x)) ⊎ (lookup (is_at (nat_cmp o)) objects ≡ Some x) → o < 2 ^ 32
        below o x (inl s) = subst (λ (z : ℕ). z < 2 ^ 32) (sym (s.0)) small
        below o x (inr e) = tied.small o x e

    pub object_less : (numbers' : List ℕ → Option ℕ) → ((n : List ℕ) → numbers' n ≡ update bytes_eq numbers d.name None n)
        → ((c : ℕ) → list_any (nat_eq c) (ancestors l d.class) ≡ true → has_pair extents' c d.object ≡ false)
        → object_in objects d.object ≡ Some (object_of d)
        → ObjectsAreTied l (remove_entry (is_at (nat_cmp d.object)) objects) numbers' extents'
    object_less numbers' less gone at = record {
      ordered = sorted_remove nat_cmp_total (is_at (nat_cmp d.object)) objects tied.ordered;
      extents_ordered = up;
      small = λ o x e. tied.small o x (found_remove nat_cmp_total exact_unsigned objects d.object o x tied.ordered e).0;
      names_tied = named_less (λ (x : Object). x.name) objects numbers tied.names_tied d.object (object_of d) numbers' less tied.ordered at;
      extents_tied = classed_less (λ (x : Object) c. is_a l x.class c) objects extents extents' tied.extents_tied d.object (object_of d) (ancestors l d.class)
          (λ c. refl) others gone tied.ordered at;
    }

    -- an object that could not be put
    pub object_same : ((c : ℕ) → list_any (nat_eq c) (ancestors l d.class) ≡ true → has_pair extents' c d.object ≡ false)
        → object_in objects d.object ≡ None → ObjectsAreTied l objects numbers extents'
    object_same gone free = record {
      ordered = tied.ordered;
      extents_ordered = up;
      small = tied.small;
      names_tied = tied.names_tied;
      extents_tied = classed_same (λ (x : Object) c. is_a l x.class c) objects extents extents'
          (ancestors l d.class) d.object others gone free tied.extents_tied;
    }

  -- a value of an object
  object_with : (o : ℕ) (x y : Object) → object_in objects o ≡ Some x → y.name ≡ x.name → y.class ≡ x.class
      → ObjectsAreTied l (set_value (is_at (nat_cmp o)) objects y) numbers extents
  object_with o x y at same same' = record {
    ordered = subst (λ (ks : List ℕ). IsStrictlySortedBy nat_cmp ks) (sym (keys-set_value (is_at (nat_cmp o)) objects y)) tied.ordered;
    extents_ordered = tied.extents_ordered;
    small = λ p z e. below p z (found_set nat_cmp_total exact_unsigned objects o y x p z at e);
    names_tied = named_set (λ (x : Object). x.name) objects numbers tied.names_tied o x y same at;
    extents_tied = classed_set (λ (x : Object) c. is_a l x.class c) objects extents tied.extents_tied o x y (λ c. ap (λ k. is_a l k c) same') at;
  }
    where
      below : (p : ℕ) (z : Object) → ((p ≡ o) × (y ≡ z)) ⊎ (lookup (is_at (nat_cmp p)) objects ≡ Some z) → p < 2 ^ 32
      below p z (inl s) = subst (λ (q : ℕ). q < 2 ^ 32) (sym (s.0)) (tied.small o x at)
      below p z (inr e) = tied.small p z e

  pub object_set : (o a : ℕ) (v : Value)
      → ObjectsAreTied l (option_map_or (λ (x : Object). set_value (is_at (nat_cmp o)) objects (with_slot l x a v)) (object_in objects o) objects) numbers extents
  object_set o a v = by (object_in objects o) refl
    where
      by : (u : Option Object) → object_in objects o ≡ u
          → ObjectsAreTied l (option_map_or (λ (x : Object). set_value (is_at (nat_cmp o)) objects (with_slot l x a v)) u objects) numbers extents
      by None e = tied
      by (Some x) e = object_with o x (with_slot l x a v) e (slot_name l x a v) (slot_class l x a v)

sorted_none : {K : Type 0} (R : K → K → Ordering) → IsStrictlySortedBy R []
unfolding IsStrictlySortedBy
sorted_none R = tt

nothing : {X Y : Type 0} (x : X) (y : Y) → (None ≡ Some y) ↔ (None ≡ Some x)
nothing x y = (λ e. absurd (some≢none y (sym e)), λ e. absurd (some≢none x (sym e)))

-- the same objects and numbers, under other names
pub tied_with : (l : Layout) (es es' : List (ℕ × Object)) (ns ns' : List ℕ → Option ℕ) (xs xs' : List (ℕ × ℕ)) → es' ≡ es → ((n : List ℕ) → ns' n ≡ ns n)
    → xs' ≡ xs → ObjectsAreTied l es ns xs → ObjectsAreTied l es' ns' xs'
tied_with l es es' ns ns' xs xs' p q r t =
    subst (λ (z : List (ℕ × Object)). ObjectsAreTied l z ns' xs') (sym p) (subst (λ (z : List ℕ → Option ℕ). ObjectsAreTied l es z xs') (λ i n. sym (q n) i)
    (subst (λ (z : List (ℕ × ℕ)). ObjectsAreTied l es ns z) (sym r) t))

pub objects_none : (l : Layout) → ObjectsAreTied l [] (λ n. None) []
objects_none l = record {
  ordered = sorted_none nat_cmp;
  extents_ordered = sorted_none link_cmp;
  small = λ o x e. absurd (some≢none x (sym e));
  names_tied = λ n o. nothing n o;
  extents_tied = λ c o. refl;
}
