-- Objects, and the numbers of their names.
use Rattle.std.proofs.Common.{◌≡◌, ◌≢◌, ◌↔◌, ◌⊎◌, inl, inr, ℕ, List, [], Option, Some, None, refl, sym, ap, ◌∙◌, subst}
use Rattle.std.proofs.Common.{cond, true, false, true≢false, is_eq}
use Rattle.std.specs.BTreeMap.{insert_entry, is_at}
use Rattle.std.specs.Cmp.{nat_cmp_total}
use Rattle.std.specs.HashMap.{HashMap, get_by_text}
use Rattle.std.specs.Cmp.Lexicographic.{bytes_decides, pointwise}
use Rattle.std.specs.List.{find}
use Rattle.std.specs.List.Sorted.{IsStrictlySortedBy}
use Rattle.std.specs.Map.{keys_of, lookup, remove_entry, set_value, update}
use Rattle.std.specs.Option.{option_map}
use Rattle.std.specs.Ordering.{nat_cmp}
use Rattle.std.specs.Prelude.{nat_eq, string_bytes}
use Rattle.std.specs.Str.{bytes_eq}
use Rattle.std.specs.declared.string.String.{String}
use Rattle.std.proofs.lemmas.Cmp.{tied_itself}
use Rattle.std.proofs.lemmas.Map.Lookups.{exact_unsigned}
use Rattle.object_state.proofs.Keyed.{by_test, equal, find_none, find_some, found_insert, found_remove, kept_insert, kept_remove, kept_set, lookup_set_here}
use Rattle.object_state.proofs.Keyed.{put_insert, some≢none}

-- a text that is another, and one that is not
same_text : (a b : List ℕ) → bytes_eq a b ≡ true → a ≡ b
same_text a b e = (bytes_decides a b).0 e

itself : (a : List ℕ) → bytes_eq a a ≡ true
itself a = (bytes_decides a a).1 refl

module _ (numbers : List ℕ → Option ℕ) (name : List ℕ) where
  -- at the name itself, and at another one
  at_name : (w : Option ℕ) → update bytes_eq numbers name w name ≡ w
  at_name w = ap (λ b. cond b w (numbers name)) (itself name)

  at_other : (w : Option ℕ) (n : List ℕ) → bytes_eq name n ≡ false → update bytes_eq numbers name w n ≡ numbers n
  at_other w n e = ap (λ b. cond b w (numbers n)) e

  -- a free name that was put and taken
  pub restored_name : (mid new : List ℕ → Option ℕ) (o : ℕ) → numbers name ≡ None
      → ((n : List ℕ) → mid n ≡ update bytes_eq numbers name (Some o) n) → ((n : List ℕ) → new n ≡ update bytes_eq mid name None n)
      → (n : List ℕ) → new n ≡ numbers n
  restored_name mid new o free put taken n =
      taken n ∙ by_test (bytes_eq name n)
      (λ y. ap (λ b. cond b None (mid n)) y ∙ sym free ∙ ap numbers (same_text name n y))
      (λ z. ap (λ b. cond b None (mid n)) z ∙ put n ∙ at_other (Some o) n z)

-- a map without entries has no number
pub none_found : {Y S : Type 0} (m : HashMap (String Y) ℕ S) → m.entries ≡ [] → (n : List ℕ) → get_by_text m n ≡ None
none_found {Y} m e n = ap (λ (es : List (String Y × ℕ)). lookup (λ k. bytes_eq n (string_bytes k)) es) e

module _ {X : Type 0} (name : X → List ℕ) where
  abbrev pub Named : List (ℕ × X) → (List ℕ → Option ℕ) → Type 0
  Named objects numbers = (n : List ℕ) (o : ℕ) → (numbers n ≡ Some o) ↔ (option_map name (lookup (is_at (nat_cmp o)) objects) ≡ Some n)

  inside : {A : Type 0} (a b : A) → Some a ≡ Some b → a ≡ b
  inside a b e = cc

  -- an object of a name
  with_name : (u : Option X) (n : List ℕ) → option_map name u ≡ Some n → (x : X) × (u ≡ Some x) × (name x ≡ n)
  with_name None n e = absurd (some≢none n (sym e))
  with_name (Some x) n e = (x, refl, inside (name x) n e)

  module _ (objects : List (ℕ × X)) (numbers : List ℕ → Option ℕ) (tied : Named objects numbers) where
    -- a name whose objects are missing is free
    pub name_free : (n : List ℕ) → option_map (λ e. e.0) (find (λ e. pointwise nat_eq (name e.1) n) objects) ≡ None → numbers n ≡ None
    name_free n h = by (numbers n) refl
      where
        missing : (u : Option (ℕ × X)) → option_map (λ e. e.0) u ≡ None → u ≡ None
        missing None m = refl
        missing (Some e) m = absurd (some≢none e.0 m)

        by : (u : Option ℕ) → numbers n ≡ u → u ≡ None
        by None e = refl
        by (Some o) e =
            let w = with_name (lookup (is_at (nat_cmp o)) objects) n ((tied n o).0 e) in
            let r = find_none (λ e. pointwise nat_eq (name e.1) n) objects (missing _ h) (is_at (nat_cmp o)) w.0 w.1 in
            absurd (true≢false (sym ((bytes_decides (name w.0) n).1 w.2) ∙ r.2))

    pub name_found : (n : List ℕ) → IsStrictlySortedBy nat_cmp (keys_of objects)
        → numbers n ≡ option_map (λ e. e.0) (find (λ e. pointwise nat_eq (name e.1) n) objects)
    name_found n up = by (find (λ e. pointwise nat_eq (name e.1) n) objects) refl
      where
        by : (u : Option (ℕ × X)) → find (λ e. pointwise nat_eq (name e.1) n) objects ≡ u → numbers n ≡ option_map (λ e. e.0) u
        by None e = name_free n (ap (λ u. option_map (λ (e : ℕ × X). e.0) u) e)
        by (Some x) e =
            let r = find_some nat_cmp_total (λ e. pointwise nat_eq (name e.1) n) objects x e up in
            (tied n x.0).1 (ap (λ u. option_map name u) r.0 ∙ ap (λ m. Some m) ((bytes_decides (name x.1) n).0 r.1))

    module _ (o0 : ℕ) (x0 : X) (numbers' : List ℕ → Option ℕ) where
      pub named_more : ((n : List ℕ) → numbers' n ≡ update bytes_eq numbers (name x0) (Some o0) n)
          → lookup (is_at (nat_cmp o0)) objects ≡ None → numbers (name x0) ≡ None → Named (insert_entry nat_cmp objects o0 x0) numbers'
      named_more more free fresh n o = (there, back)
        where
          there : numbers' n ≡ Some o → option_map name (lookup (is_at (nat_cmp o)) (insert_entry nat_cmp objects o0 x0)) ≡ Some n
          there e = by_test (bytes_eq (name x0) n)
              (λ y. let same : name x0 ≡ n = same_text (name x0) n y in
              let number : o0 ≡ o = inside o0 o (sym (more n ∙ ap (λ b. cond b (Some o0) (numbers n)) y) ∙ e) in
              subst (λ (p : ℕ). option_map name (lookup (is_at (nat_cmp p)) (insert_entry nat_cmp objects o0 x0)) ≡ Some n) number
              (ap (λ u. option_map name u) (put_insert nat_cmp_total exact_unsigned objects o0 x0) ∙ ap (λ m. Some m) same))
              (λ z. let f : numbers n ≡ Some o = sym (more n ∙ at_other numbers (name x0) (Some o0) n z) ∙ e in
              let w = with_name (lookup (is_at (nat_cmp o)) objects) n ((tied n o).0 f) in
              ap (λ u. option_map name u) (kept_insert nat_cmp_total exact_unsigned objects o0 x0 o w.0 free w.1) ∙ ap (λ m. Some m) w.2)

          back : option_map name (lookup (is_at (nat_cmp o)) (insert_entry nat_cmp objects o0 x0)) ≡ Some n → numbers' n ≡ Some o
          back e = let w = with_name (lookup (is_at (nat_cmp o)) (insert_entry nat_cmp objects o0 x0)) n e in
              by w.0 w.2 (found_insert nat_cmp_total exact_unsigned objects o0 x0 o w.0 w.1)
            where
              by : (x : X) → name x ≡ n → ((o ≡ o0) × (x0 ≡ x)) ⊎ (lookup (is_at (nat_cmp o)) objects ≡ Some x) → numbers' n ≡ Some o
              by x same (inl s) =
                  more n ∙ subst (λ (m : List ℕ). update bytes_eq numbers (name x0) (Some o0) m ≡ Some o) (ap name s.1 ∙ same)
                  (at_name numbers (name x0) (Some o0) ∙ ap (λ p. Some p) (sym (s.0)))
              by x same (inr f) =
                  let old : numbers n ≡ Some o = (tied n o).1 (ap (λ u. option_map name u) f ∙ ap (λ m. Some m) same) in
                  by_test (bytes_eq (name x0) n)
                  (λ y. absurd (some≢none o (sym old ∙ ap numbers (sym (same_text (name x0) n y)) ∙ fresh)))
                  (λ z. more n ∙ at_other numbers (name x0) (Some o0) n z ∙ old)

      pub named_less : ((n : List ℕ) → numbers' n ≡ update bytes_eq numbers (name x0) None n)
          → IsStrictlySortedBy nat_cmp (keys_of objects) → lookup (is_at (nat_cmp o0)) objects ≡ Some x0
          → Named (remove_entry (is_at (nat_cmp o0)) objects) numbers'
      named_less less up at n o = (there, back)
        where
          here : numbers (name x0) ≡ Some o0
          here = (tied (name x0) o0).1 (ap (λ u. option_map name u) at)

          there : numbers' n ≡ Some o → option_map name (lookup (is_at (nat_cmp o)) (remove_entry (is_at (nat_cmp o0)) objects)) ≡ Some n
          there e = by_test (bytes_eq (name x0) n)
              (λ y. absurd (some≢none o (sym e ∙ less n ∙ ap (λ b. cond b None (numbers n)) y)))
              (λ z. let f : numbers n ≡ Some o = sym (less n ∙ at_other numbers (name x0) None n z) ∙ e in
              let w = with_name (lookup (is_at (nat_cmp o)) objects) n ((tied n o).0 f) in
              let apart : o ≢ o0 = λ same. true≢false (sym (subst (λ (m : List ℕ). bytes_eq (name x0) m ≡ true)
              (ap name (inside x0 w.0 (sym at ∙ ap (λ p. lookup (is_at (nat_cmp p)) objects) (sym same) ∙ w.1)) ∙ w.2) (itself (name x0))) ∙ z) in
              ap (λ u. option_map name u) (kept_remove nat_cmp_total exact_unsigned objects o0 o w.0 up apart w.1) ∙ ap (λ m. Some m) w.2)

          back : option_map name (lookup (is_at (nat_cmp o)) (remove_entry (is_at (nat_cmp o0)) objects)) ≡ Some n → numbers' n ≡ Some o
          back e =
              let w = with_name (lookup (is_at (nat_cmp o)) (remove_entry (is_at (nat_cmp o0)) objects)) n e in
              let r = found_remove nat_cmp_total exact_unsigned objects o0 o w.0 up w.1 in
              let old : numbers n ≡ Some o = (tied n o).1 (ap (λ u. option_map name u) r.0 ∙ ap (λ m. Some m) w.2) in
              by_test (bytes_eq (name x0) n)
              (λ y. absurd (r.1 (inside o o0 (sym old ∙ ap numbers (sym (same_text (name x0) n y)) ∙ here))))
              (λ z. less n ∙ at_other numbers (name x0) None n z ∙ old)

    pub named_set : (o0 : ℕ) (x0 x1 : X) → name x1 ≡ name x0 → lookup (is_at (nat_cmp o0)) objects ≡ Some x0
        → Named (set_value (is_at (nat_cmp o0)) objects x1) numbers
    named_set o0 x0 x1 same at n o =
        (λ e. name_at ∙ (tied n o).0 e, λ e. (tied n o).1 (sym name_at ∙ e))
      where
        name_at : option_map name (lookup (is_at (nat_cmp o)) (set_value (is_at (nat_cmp o0)) objects x1)) ≡ option_map name (lookup (is_at
            (nat_cmp o)) objects)
        name_at = by_test (is_at (nat_cmp o0) o)
            (λ y. let here : o0 ≡ o = exact_unsigned o0 o (equal _ y) in
            subst (λ (p : ℕ). option_map name (lookup (is_at (nat_cmp p)) (set_value (is_at (nat_cmp o0)) objects x1)) ≡ option_map name (lookup (is_at
            (nat_cmp p)) objects)) here
            (ap (λ u. option_map name u) (lookup_set_here (is_at (nat_cmp o0)) objects x0 x1 at) ∙ ap (λ m. Some m) same
            ∙ sym (ap (λ u. option_map name u) at)))
            (λ z. ap (λ u. option_map name u) (kept_set nat_cmp_total exact_unsigned objects o0 x1 x0 o at
            (λ e. true≢false (sym (ap is_eq (tied_itself nat_cmp_total o0)) ∙ ap (λ p. is_at (nat_cmp o0) p) (sym e) ∙ z))))
