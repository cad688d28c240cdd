-- Edits of plain lists of entries at the place of a key.
use Rattle.std.proofs.Common.{◌≡◌, ◌≢◌, ℕ, ◌+◌, ◌<◌, ◌≤◌, zero, suc, Bool, true, false, cond, not, List, [], ◌∷◌, ◌++◌, length, take, drop, get_or, slice_set, Option, Some, None, refl, sym, ap, ◌∙◌, subst, true≢false, arith, Ordering, Less, Equal, Greater, is_eq}
use Rattle.std.specs.BTreeMap.{insert_entry, is_at}
use Rattle.std.specs.List.{insert, position, position_or_len, remove, slice_get}
use Rattle.std.specs.Map.{lookup, remove_entry, set_value}
use Rattle.std.specs.Option.{option_map, option_map_or, unwrap_or}
use Rattle.std.specs.Ordering.{is_le, nat_cmp}
use Rattle.std.specs.Prelude.{nat_lt}
use Rattle.std.proofs.lemmas.Option.{get_or_from_slice_get}
use Rattle.std.proofs.lemmas.Bool.{lt-ltb, ltb-true, ltb-false}
use Rattle.object_state.specs.declared.objects.Object.{Object}
use Rattle.object_state.proofs.Back.{inside_some}
use Rattle.object_state.proofs.Keyed.{by_order, by_test, some≢none}

not_none : {X : Type 0} (u : Option X) (x : X) → u ≡ None → u ≡ Some x → ⊥
not_none u x h k = some≢none x (sym k ∙ h)

-- the first place where a test passes, seen from the front
module _ {A : Type 0} (p : A → Bool) where
  here : (x : A) (xs : List A) → p x ≡ true → position p (x ∷ xs) ≡ Some 0
  here x xs h = rw h (ap (λ b. cond b (Some 0) None) (lt-ltb 0 (suc (length xs)) (omega arith)))

  later : (x : A) (xs : List A) → p x ≡ false → position p (x ∷ xs) ≡ option_map suc (position p xs)
  later x xs h =
      rw h (by_test (nat_lt (position_or_len p xs) (length xs))
      (λ y. let up = ltb-true _ _ y in
      rw y (ap (λ b. cond b (Some (1 + position_or_len p xs)) None) (lt-ltb (1 + position_or_len p xs) (suc (length xs)) (omega arith))
      ∙ ap (λ (n : ℕ). Some n) (one (position_or_len p xs))))
      (λ n. let down = ltb-false _ _ n in
      rw n (by_test (nat_lt (1 + position_or_len p xs) (suc (length xs)))
      (λ y. let up = ltb-true _ _ y in absurd (omega arith))
      (λ m. ap (λ b. cond b (Some (1 + position_or_len p xs)) None) m))))
    where
      one : (n : ℕ) → 1 + n ≡ suc n
      one n = omega arith

  -- the place is none only where no element passes
  pub placed_later : (u : Option ℕ) (i : ℕ) → option_map suc u ≡ Some i → (j : ℕ) × (u ≡ Some j) × (i ≡ suc j)
  placed_later None i h = absurd (some≢none i (sym h))
  placed_later (Some j) i h = (j, refl, sym (inside_some (suc j) i h))

  pub none_later : (u : Option ℕ) → option_map suc u ≡ None → u ≡ None
  none_later None h = refl
  none_later (Some j) h = absurd (some≢none (suc j) h)

module _ {K X : Type 0} (test : K → Bool) where
  abbrev passes : K × X → Bool
  passes e = test e.0

  pub removed_at : (es : List (K × X)) (i : ℕ) → position passes es ≡ Some i → remove es i ≡ remove_entry test es
  removed_at [] i h = absurd (some≢none i (sym h))
  removed_at (e ∷ es) i h =
      by_test (test e.0)
      (λ y. let at : i ≡ 0 = inside_some i 0 (sym h ∙ here passes e es y) in rw (at, y) refl)
      (λ n. let r = placed_later passes (position passes es) i (sym (later passes e es n) ∙ h) in
      step (removed_at es) r.0 n r.1 r.2)
    where
      step : ((j : ℕ) → position passes es ≡ Some j → remove es j ≡ remove_entry test es) → (j : ℕ) → test e.0 ≡ false → position passes es ≡ Some j → i ≡ suc j
          → remove (e ∷ es) i ≡ remove_entry test (e ∷ es)
      step ih j n p q = rw (q, n) (ap (λ l. e ∷ l) (ih j p))

  pub absent_stays : (es : List (K × X)) → position passes es ≡ None → remove_entry test es ≡ es
  absent_stays [] h = refl
  absent_stays (e ∷ es) h =
      by_test (test e.0)
      (λ y. absurd (some≢none 0 (sym (here passes e es y) ∙ h)))
      (λ n. rw n (ap (λ l. e ∷ l) (absent_stays es (none_later passes (position passes es) (sym (later passes e es n) ∙ h)))))

  pub absent_lookup : (es : List (K × X)) → position passes es ≡ None → lookup test es ≡ None
  absent_lookup [] h = refl
  absent_lookup (e ∷ es) h =
      by_test (test e.0)
      (λ y. absurd (some≢none 0 (sym (here passes e es y) ∙ h)))
      (λ n. rw n (absent_lookup es (none_later passes (position passes es) (sym (later passes e es n) ∙ h))))

  pub lookup_at : (es : List (K × X)) (i : ℕ) (d : K × X) → position passes es ≡ Some i → (lookup test es ≡ Some (get_or es i d).1) × (i < length es)
  lookup_at [] i d h = absurd (some≢none i (sym h))
  lookup_at (e ∷ es) i d h =
      by_test (test e.0)
      (λ y. let at : i ≡ 0 = inside_some i 0 (sym h ∙ here passes e es y) in (rw (at, y) refl, omega arith))
      (λ n. let r = placed_later passes (position passes es) i (sym (later passes e es n) ∙ h) in
      step (λ j. lookup_at es j d) r.0 n r.1 r.2)
    where
      step : ((j : ℕ) → position passes es ≡ Some j → (lookup test es ≡ Some (get_or es j d).1) × (j < length es)) → (j : ℕ) → test e.0 ≡ false
          → position passes es ≡ Some j → i ≡ suc j
          → (lookup test (e ∷ es) ≡ Some (get_or (e ∷ es) i d).1) × (i < length (e ∷ es))
      step ih j n p q = let k = ih j p in let below = k.1 in (rw (q, n) (k.0), omega arith)

  pub set_at_place : (es : List (K × X)) (i : ℕ) (d : K × X) (w : X) → position passes es ≡ Some i → slice_set es i ((get_or es i d).0, w) ≡ set_value test es w
  set_at_place [] i d w h = absurd (some≢none i (sym h))
  set_at_place (e ∷ es) i d w h =
      by_test (test e.0)
      (λ y. let at : i ≡ 0 = inside_some i 0 (sym h ∙ here passes e es y) in rw (at, y) refl)
      (λ n. let r = placed_later passes (position passes es) i (sym (later passes e es n) ∙ h) in
      step (λ j. set_at_place es j d w) r.0 n r.1 r.2)
    where
      step : ((j : ℕ) → position passes es ≡ Some j → slice_set es j ((get_or es j d).0, w) ≡ set_value test es w) → (j : ℕ) → test e.0 ≡ false
          → position passes es ≡ Some j → i ≡ suc j
          → slice_set (e ∷ es) i ((get_or (e ∷ es) i d).0, w) ≡ set_value test (e ∷ es) w
      step ih j n p q = rw (q, n) (ap (λ l. e ∷ l) (ih j p))

-- where a key goes: before the first key that is not below it
module _ {K X : Type 0} (R : K → K → Ordering) (k : K) (v : X) where
  abbrev pub stops : K × X → Bool
  stops e = is_le (R k e.0)

  abbrev pub goes : List (K × X) → ℕ
  goes es = unwrap_or (position stops es) (length es)

  goes_here : (e : K × X) (es : List (K × X)) → stops e ≡ true → goes (e ∷ es) ≡ 0
  goes_here e es h = ap (λ (u : Option ℕ). unwrap_or u (length (e ∷ es))) (here stops e es h)

  goes_later : (e : K × X) (es : List (K × X)) → stops e ≡ false → goes (e ∷ es) ≡ suc (goes es)
  goes_later e es h = ap (λ (u : Option ℕ). unwrap_or u (length (e ∷ es))) (later stops e es h) ∙ by (position stops es)
    where
      by : (u : Option ℕ) → unwrap_or (option_map suc u) (length (e ∷ es)) ≡ suc (unwrap_or u (length es))
      by None = refl
      by (Some i) = refl

  pub goes_within : (es : List (K × X)) → goes es ≤ length es
  goes_within [] = omega arith
  goes_within (e ∷ es) =
      by_test (stops e)
      (λ y. let h = goes_here e es y in omega arith)
      (λ n. let h = goes_later e es n in let r = goes_within es in omega arith)

  equal_gets : (es : List (K × X)) (i : ℕ) (x : K × X) → i ≡ goes es → slice_get es i ≡ Some x → is_at (R k) x.0 ≡ true
      → slice_set es i (x.0, v) ≡ insert_entry R es k v
  equal_gets [] i x e g t = absurd (some≢none x (sym g))
  equal_gets (y ∷ ys) i x e g t =
      by_order (R k y.0)
      (λ l. let at : i ≡ 0 = e ∙ goes_here y ys (ap is_le l) in
      let same : y ≡ x = inside_some y x (subst (λ (n : ℕ). slice_get (y ∷ ys) n ≡ Some x) at g) in
      absurd (true≢false (sym t ∙ ap (λ (z : K × X). is_at (R k) z.0) (sym same) ∙ ap is_eq l)))
      (λ q. let at : i ≡ 0 = e ∙ goes_here y ys (ap is_le q) in
      let same : y ≡ x = inside_some y x (subst (λ (n : ℕ). slice_get (y ∷ ys) n ≡ Some x) at g) in
      rw (at, q) (ap (λ (z : K × X). (z.0, v) ∷ ys) (sym same)))
      (λ h. let at : i ≡ suc (goes ys) = e ∙ goes_later y ys (ap is_le h) in
      rw (at, h) (ap (λ l. y ∷ l) (equal_gets ys (goes ys) x refl (subst (λ (n : ℕ). slice_get (y ∷ ys) n ≡ Some x) at g) t)))

  pub other_goes : (es : List (K × X)) (i : ℕ) → i ≡ goes es → option_map_or (λ (e : K × X). is_at (R k) e.0) (slice_get es i) false ≡ false
      → insert es i (k, v) ≡ insert_entry R es k v
  other_goes [] i e f = rw (e) refl
  other_goes (y ∷ ys) i e f =
      by_order (R k y.0)
      (λ l. let at : i ≡ 0 = e ∙ goes_here y ys (ap is_le l) in rw (at, l) refl)
      (λ q. let at : i ≡ 0 = e ∙ goes_here y ys (ap is_le q) in
      absurd (true≢false (sym (ap is_eq q) ∙ subst (λ (n : ℕ). option_map_or (λ (e : K × X). is_at (R k) e.0) (slice_get (y ∷ ys) n) false ≡ false) at f)))
      (λ h. let at : i ≡ suc (goes ys) = e ∙ goes_later y ys (ap is_le h) in
      rw (at, h) (ap (λ l. y ∷ l) (other_goes ys (goes ys) refl
      (subst (λ (n : ℕ). option_map_or (λ (e : K × X). is_at (R k) e.0) (slice_get (y ∷ ys) n) false ≡ false) at f))))

  found_there : (u : Option (K × X)) → option_map_or (λ (e : K × X). is_at (R k) e.0) u false ≡ true → (x : K × X) × (u ≡ Some x) × (is_at (R k) x.0 ≡ true)
  found_there None h = absurd (true≢false (sym h))
  found_there (Some x) h = (x, refl, h)

  pub equal_put : (es : List (K × X)) (i : ℕ) (y : K × X) → i ≡ goes es → option_map_or (λ (e : K × X). is_at (R k) e.0) (slice_get es i) false ≡ true
      → y ≡ get_or es i y
      → slice_set es i (y.0, v) ≡ insert_entry R es k v
  equal_put es i y e h same =
      let r = found_there (slice_get es i) h in
      let is : y ≡ r.0 = same ∙ get_or_from_slice_get es i r.0 y r.1 in
      ap (λ (z : K × X). slice_set es i (z.0, v)) is ∙ equal_gets es i r.0 e r.1 r.2

-- a value that is written at the place of a key
module _ (f : Object → Object) (es : List (ℕ × Object)) (o : ℕ) where
  abbrev edited : Option Object → List (ℕ × Object)
  edited u = option_map_or (λ x. set_value (is_at (nat_cmp o)) es (f x)) u es

  pub written : (i : ℕ) (y : ℕ × Object) (new : Object) → position (λ e. is_at (nat_cmp o) e.0) es ≡ Some i → y ≡ get_or es i y → new ≡ f y.1
      → slice_set es i (y.0, new) ≡ option_map_or (λ x. set_value (is_at (nat_cmp o)) es (f x)) (lookup (is_at (nat_cmp o)) es) es
  written i y new p q r =
      ap (λ (z : ℕ × Object). slice_set es i (z.0, new)) q
      ∙ set_at_place (is_at (nat_cmp o)) es i y new p
      ∙ ap (λ (z : Object). set_value (is_at (nat_cmp o)) es z) (r ∙ ap (λ (z : ℕ × Object). f z.1) q)
      ∙ sym (ap edited (lookup_at (is_at (nat_cmp o)) es i y p).0)

  pub unwritten : position (λ e. is_at (nat_cmp o) e.0) es ≡ None → es ≡ option_map_or (λ x. set_value (is_at (nat_cmp o)) es (f x)) (lookup (is_at
      (nat_cmp o)) es) es
  unwritten p = sym (ap edited (absent_lookup (is_at (nat_cmp o)) es p))
