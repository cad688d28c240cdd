-- What a name stands for stays as it is through changes that are not about it.
use Rattle.std.proofs.Common.{◌≡◌, ℕ, Bool, true, false, cond, List, [], ◌∷◌, Option, Some, None, refl, sym, ap, ◌∙◌, true≢false, is_eq, arith}
use Rattle.std.specs.BTreeMap.{insert_entry, is_at}
use Rattle.std.specs.Cmp.{eq_by_cmp_equiv, nat_cmp_total}
use Rattle.std.specs.Cmp.Lexicographic.{bytes_decides, nat_list_cmp_total, pointwise}
use Rattle.std.specs.List.{filter, find}
use Rattle.std.specs.Map.{keys_of, lookup, remove_entry, set_value}
use Rattle.std.specs.Option.{option_map, option_map_or}
use Rattle.std.specs.Ordering.{nat_cmp}
use Rattle.std.specs.Prelude.{nat_eq}
use Rattle.std.proofs.lemmas.Map.{lookup-remove_entry}
use Rattle.std.proofs.lemmas.Map.Keys.{IsDistinct-from_sorted}
use Rattle.std.proofs.lemmas.Map.Lookups.{exact_bytes}
use Rattle.ocl_values.specs.declared.value.Value.{Value}
use Rattle.ocl_values.specs.Shape.{IsWellMade}
use Rattle.object_state.specs.declared.change.Change.{Change}
use Rattle.object_state.specs.declared.change.Change.TheVariants.{Create, Remove, SetSlot, Link, Unlink, Bind, Unbind}
use Rattle.object_state.specs.declared.change.ObjectChange.{ObjectChange}
use Rattle.object_state.specs.declared.layout.Layout.{Layout}
use Rattle.object_state.specs.declared.objects.Object.{Object}
use Rattle.object_state.specs.declared.objects.Variable.{Variable}
use Rattle.object_state.specs.Changes.{apply, object_of, with_slot}
use Rattle.object_state.specs.Faults.{Fits}
use Rattle.object_state.specs.Layouts.{place}
use Rattle.object_state.specs.State.{State, object, object_named, text_cmp, variable}
use Rattle.object_state.specs.Valid.{IsValid}
use Rattle.object_state.proofs.Back.{apply_set, faultless, inside_some, live, name_set_at, other_number}
use Rattle.object_state.proofs.Keyed.{by_test, equal, filter_insert_out, lookup_insert}
use Rattle.soil_exec.specs.Machine.{object_or_invalid, shell_value}
use Rattle.soil_exec.specs.Refreshing.{name_of}

first : {A : Type 0} → List A → Option A
first [] = None
first (x ∷ xs) = Some x

-- what is found is the first of what passes
find_first : {A : Type 0} (p : A → Bool) (xs : List A) → find p xs ≡ first (filter p xs)
unfolding first
find_first p [] = refl
find_first p (x ∷ xs) = by_test (p x) (λ y. rw y refl) (λ n. rw n (find_first p xs))

-- a search by what is kept at keys, where an entry goes that does not pass, or becomes another that passes just as well
module _ {K X : Type 0} (passes : X → Bool) (test : K → Bool) where
  found_less : (es : List (K × X)) (v : X) → lookup test es ≡ Some v → passes v ≡ false
      → find (λ e. passes e.1) (remove_entry test es) ≡ find (λ e. passes e.1) es
  found_less [] v h f = refl
  found_less (e ∷ es) v h f =
      by_test (test e.0)
      (λ y. let same : e.1 ≡ v = inside_some e.1 v (sym (ap (λ b. cond b (Some e.1) (lookup test es)) y) ∙ h) in
      rw y (rw (ap passes same ∙ f) refl))
      (λ n. rw n (ap (λ o. cond (passes e.1) (Some e) o) (found_less es v (sym (ap (λ b. cond b (Some e.1) (lookup test es)) n) ∙ h) f)))

  keys_alike : (k : K) (v w : X) (o : Option (K × X)) (a b : Bool) → a ≡ b → option_map (λ (e : K × X). e.0) (cond a (Some (k, w)) o)
      ≡ option_map (λ (e : K × X). e.0) (cond b (Some (k, v)) o)
  keys_alike k v w o true true h = refl
  keys_alike k v w o false false h = refl
  keys_alike k v w o true false h = absurd (true≢false h)
  keys_alike k v w o false true h = absurd (true≢false (sym h))

  under : (e : K × X) (b : Bool) (o u : Option (K × X)) → option_map (λ (e : K × X). e.0) o ≡ option_map (λ (e : K × X). e.0) u
      → option_map (λ (e : K × X). e.0) (cond b (Some e) o) ≡ option_map (λ (e : K × X). e.0) (cond b (Some e) u)
  under e true o u h = refl
  under e false o u h = h

  found_set : (es : List (K × X)) (v w : X) → lookup test es ≡ Some v → passes w ≡ passes v
      → option_map (λ (e : K × X). e.0) (find (λ e. passes e.1) (set_value test es w)) ≡ option_map (λ (e : K × X). e.0) (find (λ e. passes e.1) es)
  found_set [] v w h f = refl
  found_set (e ∷ es) v w h f =
      by_test (test e.0)
      (λ y. let same : e.1 ≡ v = inside_some e.1 v (sym (ap (λ b. cond b (Some e.1) (lookup test es)) y) ∙ h) in
      rw y (keys_alike e.0 e.1 w (find (λ e. passes e.1) es) (passes w) (passes e.1) (f ∙ ap passes (sym same))))
      (λ n. rw n (under e (passes e.1) (find (λ e. passes e.1) (set_value test es w)) (find (λ e. passes e.1) es)
      (found_set es v w (sym (ap (λ b. cond b (Some e.1) (lookup test es)) n) ∙ h) f)))

module _ (l : Layout) (s : State) (x : List ℕ) (valid : IsValid l s) where
  abbrev named : Object → Bool
  named y = pointwise nat_eq y.name x

  -- another name stands at another place
  apart : (n : List ℕ) → pointwise nat_eq n x ≡ false → is_at (text_cmp x) n ≡ false
  apart n m = by_test (is_at (text_cmp x) n)
      (λ y. absurd (true≢false (sym ((bytes_decides n x).1 (sym (exact_bytes x n (equal _ y)))) ∙ m)))
      (λ z. z)

  apart_back : (n : List ℕ) → pointwise nat_eq n x ≡ false → is_at (text_cmp n) x ≡ false
  apart_back n m = by_test (is_at (text_cmp n) x)
      (λ y. absurd (true≢false (sym ((bytes_decides n x).1 (exact_bytes n x (equal _ y))) ∙ m)))
      (λ z. z)

  created : (d : ObjectChange) → Fits l s (Create d) → pointwise nat_eq d.name x ≡ false → shell_value (apply l s (Create d)) x ≡ shell_value s x
  created d f m =
      let number = (faultless l s (Create d) f.faultless).number in
      let free = f.agrees.free (other_number _ _ number) in
      let same = find_first (λ (e : ℕ × Object). named e.1) (insert_entry nat_cmp s.objects d.object (object_of d))
      ∙ ap first (filter_insert_out nat_cmp_total (λ (e : ℕ × Object). named e.1) s.objects d.object (object_of d) free m)
      ∙ sym (find_first (λ (e : ℕ × Object). named e.1) s.objects) in
      ap (λ (o : Option (ℕ × Object)). option_map_or (λ (v : Variable). v.value) (variable s x) (object_or_invalid (option_map (λ e. e.0) o))) same

  removed : (d : ObjectChange) → Fits l s (Remove d) → pointwise nat_eq d.name x ≡ false → shell_value (apply l s (Remove d)) x ≡ shell_value s x
  removed d f m =
      let there = live (object s d.object) (faultless l s (Remove d) f.faultless).live in
      let is : there.0 ≡ object_of d = f.agrees.same there.0 there.1 in
      let same = found_less named (is_at (nat_cmp d.object)) s.objects there.0 there.1 (ap named is ∙ m) in
      ap (λ (o : Option (ℕ × Object)). option_map_or (λ (v : Variable). v.value) (variable s x) (object_or_invalid (option_map (λ e. e.0) o))) same

  set : (o a : ℕ) (old new : Value) → Fits l s (SetSlot o a old new) → shell_value (apply l s (SetSlot o a old new)) x ≡ shell_value s x
  set o a old new f =
      let there = live (object s o) (faultless l s (SetSlot o a old new) f.faultless).live in
      let name = name_set_at (place l there.0.class a) there.0 new in
      let same = found_set named (is_at (nat_cmp o)) s.objects there.0 (with_slot l there.0 a new) there.1 (ap (λ n. pointwise nat_eq n x) name) in
      ap (λ t. shell_value t x) (apply_set l s o a old new there.0 there.1)
      ∙ ap (λ (o : Option ℕ). option_map_or (λ (v : Variable). v.value) (variable s x) (object_or_invalid o)) same

  bound : (n : List ℕ) (old : Option Variable) (new : Variable) → pointwise nat_eq n x ≡ false → shell_value (apply l s (Bind n old new)) x ≡ shell_value s x
  bound n old new m =
      let same = lookup_insert nat_list_cmp_total s.variables n new x
      ∙ ap (λ b. cond b (Some new) (variable s x)) (apart n m) in
      ap (λ (o : Option Variable). option_map_or (λ (v : Variable). v.value) o (shell_value (record s { variables = [] }) x)) same

  unbound : (n : List ℕ) (old : Variable) → pointwise nat_eq n x ≡ false → shell_value (apply l s (Unbind n old)) x ≡ shell_value s x
  unbound n old m =
      let same = lookup-remove_entry (eq_by_cmp_equiv nat_list_cmp_total) (is_at (text_cmp n)) (λ a b t. ap is_eq (nat_list_cmp_total.congr n a b (equal _ t))) x
      s.variables (IsDistinct-from_sorted text_cmp (keys_of s.variables) valid.variables.ordered)
      ∙ ap (λ b. cond b None (variable s x)) (apart_back n m) in
      ap (λ (o : Option Variable). option_map_or (λ (v : Variable). v.value) o (shell_value (record s { variables = [] }) x)) same

  -- a change that is not about the name
  pub stays : (c : Change) → Fits l s c → option_map_or (λ n. pointwise nat_eq n x) (name_of c) false ≡ false → shell_value (apply l s c) x ≡ shell_value s x
  stays (Create d) f m = created d f m
  stays (Remove d) f m = removed d f m
  stays (SetSlot o a old new) f m = set o a old new f
  stays (Link d) f m = refl
  stays (Unlink d) f m = refl
  stays (Bind n old new) f m = bound n old new m
  stays (Unbind n old) f m = unbound n old m

-- what a name stands for is well made
pub well_named : (l : Layout) (s : State) (x : List ℕ) → IsValid l s → IsWellMade (shell_value s x)
well_named l s x v = by (variable s x) refl
  where
    of_object : (u : Option ℕ) → IsWellMade (object_or_invalid u)
    of_object None = record { tidy = tt; levels = omega arith }
    of_object (Some o) = record { tidy = tt; levels = omega arith }

    by : (u : Option Variable) → variable s x ≡ u → IsWellMade (option_map_or (λ (v : Variable). v.value) u (object_or_invalid (object_named s x)))
    by None h = of_object (object_named s x)
    by (Some w) h = v.variables.values x w h
