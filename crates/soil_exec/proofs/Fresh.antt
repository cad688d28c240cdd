-- What is bound for the names of a shell is what they stand for, once it was bound anew for the names that changes were about.
use Rattle.std.proofs.Common.{◌≡◌, ℕ, ◌+◌, ◌≤◌, ◌⊎◌, inl, inr, suc, Bool, true, false, cond, not, ◌&&◌, ◌||◌, List, [], ◌∷◌, ◌++◌, length, map, take, drop, slice_set, Option, Some, None, refl, sym, ap, ◌∙◌, subst, true≢false, arith, is_eq}
use Rattle.std.specs.Cmp.Lexicographic.{bytes_decides, nat_list_cmp_total, pointwise}
use Rattle.std.specs.List.{position, position_or_len}
use Rattle.std.specs.Option.{option_map, option_map_or}
use Rattle.std.specs.Prelude.{nat_eq, nat_lt}
use Rattle.std.proofs.lemmas.Bool.{lt-ltb, ltb-true, ltb-false}
use Rattle.std.proofs.lemmas.Cmp.{tied_itself}
use Rattle.use_orders.specs.Canon.{all_differ, has}
use Rattle.ocl_values.specs.declared.value.Value.{Value}
use Rattle.object_state.specs.declared.change.Change.{Change}
use Rattle.object_state.specs.declared.layout.Layout.{Layout}
use Rattle.object_state.specs.Changes.{apply}
use Rattle.object_state.specs.State.{State, text_cmp}
use Rattle.object_state.specs.Valid.{IsValid}
use Rattle.object_state.proofs.Keyed.{by_test}
use Rattle.object_state.proofs.Kept.{stays_valid}
use Rattle.soil_changes.specs.Progress.{Lead}
use Rattle.soil_exec.specs.Machine.{shell_value}
use Rattle.soil_exec.specs.Refreshing.{name_of, refreshed, refreshed_all, refreshed_for}
use Rattle.soil_exec.proofs.Names.{stays}

-- the first place where a test passes, seen from the front
module _ {A : Type 0} (p : A → Bool) where
  pub here : (x : A) (xs : List A) → p x ≡ true → position p (x ∷ xs) ≡ Some 0
  here x xs h = rw h (ap (λ b. cond b (Some 0) None) (lt-ltb 0 (suc (length xs)) (omega arith)))

  pub later : (x : A) (xs : List A) → p x ≡ false → position p (x ∷ xs) ≡ option_map suc (position p xs)
  later x xs h =
      rw h (by_test (nat_lt (position_or_len p xs) (length xs))
      (λ y. let up = ltb-true _ _ y in
      rw y (ap (λ b. cond b (Some (1 + position_or_len p xs)) None) (lt-ltb (1 + position_or_len p xs) (suc (length xs)) (omega arith))
      ∙ ap (λ (n : ℕ). Some n) (one (position_or_len p xs))))
      (λ n. let down = ltb-false _ _ n in
      rw n (by_test (nat_lt (1 + position_or_len p xs) (suc (length xs)))
      (λ y. let up = ltb-true _ _ y in absurd (omega arith))
      (λ m. ap (λ b. cond b (Some (1 + position_or_len p xs)) None) m))))
    where
      one : (n : ℕ) → 1 + n ≡ suc n
      one n = omega arith

-- a value more is put at the place of a name
abbrev row : (n : List ℕ) (v : Value) → List (List ℕ) → List Value → List Value
row n v [] es = es
row n v (x ∷ xs) [] = []
row n v (x ∷ xs) (e ∷ es) = cond (pointwise nat_eq n x) (v ∷ es) (e ∷ row n v xs es)

set_later : (u : Option ℕ) (v e : Value) (es : List Value) → option_map_or (λ i. slice_set (e ∷ es) i v) (option_map suc u) (e ∷ es)
    ≡ e ∷ option_map_or (λ i. slice_set es i v) u es
set_later None v e es = refl
set_later (Some i) v e es = refl

placed_row : (n : List ℕ) (v : Value) (xs : List (List ℕ)) (es : List Value) → length xs ≤ length es
    → option_map_or (λ i. slice_set es i v) (position (pointwise nat_eq n) xs) es ≡ row n v xs es
placed_row n v [] es h = refl
placed_row n v (x ∷ xs) [] h = absurd (omega arith)
placed_row n v (x ∷ xs) (e ∷ es) h =
    by_test (pointwise nat_eq n x)
    (λ y. ap (λ u. option_map_or (λ i. slice_set (e ∷ es) i v) u (e ∷ es)) (here (pointwise nat_eq n) x xs y)
    ∙ sym (ap (λ b. cond b (v ∷ es) (e ∷ row n v xs es)) y))
    (λ m. ap (λ u. option_map_or (λ i. slice_set (e ∷ es) i v) u (e ∷ es)) (later (pointwise nat_eq n) x xs m)
    ∙ set_later (position (pointwise nat_eq n) xs) v e es
    ∙ ap (λ r. e ∷ r) (placed_row n v xs es (omega arith))
    ∙ sym (ap (λ b. cond b (v ∷ es) (e ∷ row n v xs es)) m))

row_length : (n : List ℕ) (v : Value) (xs : List (List ℕ)) (es : List Value) → length (row n v xs es) ≡ length es
row_length n v [] es = refl
row_length n v (x ∷ xs) [] = refl
row_length n v (x ∷ xs) (e ∷ es) =
    by_test (pointwise nat_eq n x)
    (λ y. rw y refl)
    (λ m. rw m (ap suc (row_length n v xs es)))

row_behind : (n : List ℕ) (v : Value) (xs : List (List ℕ)) (es : List Value) → drop (length xs) (row n v xs es) ≡ drop (length xs) es
row_behind n v [] es = refl
row_behind n v (x ∷ xs) [] = refl
row_behind n v (x ∷ xs) (e ∷ es) =
    by_test (pointwise nat_eq n x)
    (λ y. rw y refl)
    (λ m. rw m (row_behind n v xs es))

-- what is bound behind the names stays
module _ (xs : List (List ℕ)) (t : State) where
  for_length : (c : Change) (es : List Value) → length xs ≤ length es → length (refreshed_for xs t es c) ≡ length es
  for_length c es h = by (name_of c)
    where
      by : (u : Option (List ℕ)) → length (option_map_or (refreshed xs t es) u es) ≡ length es
      by None = refl
      by (Some n) = ap length (placed_row n (shell_value t n) xs es h) ∙ row_length n (shell_value t n) xs es

  for_behind : (c : Change) (es : List Value) → length xs ≤ length es → drop (length xs) (refreshed_for xs t es c) ≡ drop (length xs) es
  for_behind c es h = by (name_of c)
    where
      by : (u : Option (List ℕ)) → drop (length xs) (option_map_or (refreshed xs t es) u es) ≡ drop (length xs) es
      by None = refl
      by (Some n) = ap (drop (length xs)) (placed_row n (shell_value t n) xs es h) ∙ row_behind n (shell_value t n) xs es

  pub behind : (cs : List Change) (es : List Value) → length xs ≤ length es → drop (length xs) (refreshed_all xs t es cs) ≡ drop (length xs) es
  behind [] es h = refl
  behind (c ∷ cs) es h = behind cs (refreshed_for xs t es c) (subst (λ n. length xs ≤ n) (sym (for_length c es h)) h) ∙ for_behind c es h

-- what is bound for a name is what it stands for in a state, or in the last one
module _ (t : State) where
  abbrev Agree : State → List (List ℕ) → List Value → Type 0
  Agree s [] es = Unit {0}
  Agree s (x ∷ xs) [] = ⊥
  Agree s (x ∷ xs) (e ∷ es) = ((e ≡ shell_value s x) ⊎ (e ≡ shell_value t x)) × Agree s xs es

  heads : {X : Type 0} {x y : X} {xs ys : List X} → (x ∷ xs) ≡ (y ∷ ys) → (x ≡ y) × (xs ≡ ys)
  heads e = (cc, cc)

  from_bound : (s : State) (xs : List (List ℕ)) (es : List Value) → take (length xs) es ≡ map (shell_value s) xs → Agree s xs es
  from_bound s [] es h = tt
  from_bound s (x ∷ xs) [] h = absurd (empty h)
    where
      empty : {X : Type 0} {x : X} {xs : List X} → [] ≡ (x ∷ xs) → ⊥
      empty e = cc
  from_bound s (x ∷ xs) (e ∷ es) h = let r = heads h in (inl r.0, from_bound s xs es r.1)

  to_bound : (xs : List (List ℕ)) (es : List Value) → Agree t xs es → take (length xs) es ≡ map (shell_value t) xs
  to_bound [] es a = refl
  to_bound (x ∷ xs) [] a = absurd a
  to_bound (x ∷ xs) (e ∷ es) a = let h = either a.0 in let r = to_bound xs es a.1 in λ i. h i ∷ r i
    where
      either : (e ≡ shell_value t x) ⊎ (e ≡ shell_value t x) → e ≡ shell_value t x
      either (inl h) = h
      either (inr h) = h

  as_long : (s : State) (xs : List (List ℕ)) (es : List Value) → Agree s xs es → length xs ≤ length es
  as_long s [] es a = omega arith
  as_long s (x ∷ xs) [] a = absurd a
  as_long s (x ∷ xs) (e ∷ es) a = let h = as_long s xs es a.1 in omega arith

  module _ (l : Layout) (s : State) (v : IsValid l s) (c : Change) where
    abbrev after : State
    after = apply l s c

    abbrev Misses : List ℕ → Type 0
    Misses x = option_map_or (λ n. pointwise nat_eq n x) (name_of c) false ≡ false

    moved : (x : List ℕ) (e : Value) → ((Misses x) → shell_value after x ≡ shell_value s x) → Misses x → (e ≡ shell_value s x) ⊎ (e ≡ shell_value t x)
        → (e ≡ shell_value after x) ⊎ (e ≡ shell_value t x)
    moved x e f m (inl h) = inl (h ∙ sym (f m))
    moved x e f m (inr h) = inr h

    module _ (Stays : (x : List ℕ) → Misses x → shell_value after x ≡ shell_value s x) where
      -- the change has no name
      unnamed : ((x : List ℕ) → Misses x) → (xs : List (List ℕ)) (es : List Value) → Agree s xs es → Agree after xs es
      unnamed m [] es a = tt
      unnamed m (x ∷ xs) [] a = absurd a
      unnamed m (x ∷ xs) (e ∷ es) a = (moved x e (Stays x) (m x) a.0, unnamed m xs es a.1)

      module _ (n : List ℕ) (is : name_of c ≡ Some n) where
        misses : (x : List ℕ) → pointwise nat_eq n x ≡ false → Misses x
        misses x h = ap (λ u. option_map_or (λ n. pointwise nat_eq n x) u false) is ∙ h

        neither : (a b : Bool) → (a || b) ≡ false → (a ≡ false) × (b ≡ false)
        neither true b h = absurd (true≢false h)
        neither false b h = (refl, h)

        -- none of some names is that of the change
        tied_not : (x : List ℕ) → is_eq (text_cmp n x) ≡ false → pointwise nat_eq n x ≡ false
        tied_not x h = by_test (pointwise nat_eq n x)
            (λ y. absurd (true≢false (sym (ap is_eq (tied_itself nat_list_cmp_total n)) ∙ ap (λ (z : List ℕ). is_eq (text_cmp n z)) ((bytes_decides n x).0 y) ∙ h)))
            (λ m. m)

        others : (xs : List (List ℕ)) (es : List Value) → has text_cmp xs n ≡ false → Agree s xs es → Agree after xs es
        others [] es h a = tt
        others (x ∷ xs) [] h a = absurd a
        others (x ∷ xs) (e ∷ es) h a =
            let r = neither (is_eq (text_cmp n x)) (has text_cmp xs n) h in
            (moved x e (Stays x) (misses x (tied_not x r.0)) a.0, others xs es r.1 a.1)

        apart : (b d : Bool) → (not b && d) ≡ true → (b ≡ false) × (d ≡ true)
        apart true d h = absurd (true≢false (sym h))
        apart false d h = (refl, h)

        bound : (xs : List (List ℕ)) (es : List Value) → all_differ text_cmp xs ≡ true → Agree s xs es → Agree after xs (row n (shell_value t n) xs es)
        bound [] es d a = tt
        bound (x ∷ xs) [] d a = absurd a
        bound (x ∷ xs) (e ∷ es) d a =
            let r = apart (has text_cmp xs x) (all_differ text_cmp xs) d in
            by_test (pointwise nat_eq n x)
            (λ y. let same : n ≡ x = (bytes_decides n x).0 y in
            rw y (inr (ap (shell_value t) same), others xs es (ap (has text_cmp xs) same ∙ r.0) a.1))
            (λ m. rw m (moved x e (Stays x) (misses x m) a.0, bound xs es r.1 a.1))

      step : (xs : List (List ℕ)) (es : List Value) → all_differ text_cmp xs ≡ true → Agree s xs es → Agree after xs (refreshed_for xs t es c)
      step xs es d a = by (name_of c) refl
        where
          by : (u : Option (List ℕ)) → name_of c ≡ u → Agree after xs (option_map_or (refreshed xs t es) u es)
          by None h = unnamed (λ x. ap (λ u. option_map_or (λ n. pointwise nat_eq n x) u false) h) xs es a
          by (Some n) h = subst (λ r. Agree after xs r) (sym (placed_row n (shell_value t n) xs es (as_long s xs es a))) (bound n h xs es d a)

  -- through all changes that lead to the last state
  pub all_bound : (l : Layout) (xs : List (List ℕ)) (cs : List Change) (s : State) (es : List Value) → all_differ text_cmp xs ≡ true → IsValid l s → Lead l s cs t
      → Agree s xs es → take (length xs) (refreshed_all xs t es cs) ≡ map (shell_value t) xs
  all_bound l xs [] s es d v led a = to_bound xs es (subst (λ z. Agree z xs es) led a)
  all_bound l xs (c ∷ cs) s es d v led a =
      all_bound l xs cs (apply l s c) (refreshed_for xs t es c) d (stays_valid l s c v led.0) led.1
      (step l s v c (λ x m. stays l s x v c led.0 m) xs es d a)

  pub still_bound : (l : Layout) (xs : List (List ℕ)) (cs : List Change) (s : State) (es : List Value) → all_differ text_cmp xs ≡ true → IsValid l s → Lead l s cs t
      → take (length xs) es ≡ map (shell_value s) xs → take (length xs) (refreshed_all xs t es cs) ≡ map (shell_value t) xs
  still_bound l xs cs s es d v led h = all_bound l xs cs s es d v led (from_bound s xs es h)

-- changes that lead from a first state lead on from where the first of them led
pub led_on : (l : Layout) (cs more : List Change) (s m t : State) → Lead l s cs m → Lead l s (cs ++ more) t → Lead l m more t
led_on l [] more s m t h k = subst (λ z. Lead l z more t) h k
led_on l (c ∷ cs) more s m t h k = led_on l cs more (apply l s c) m t h.1 k.1

-- there is a value for each name
pub names_bound : (s : State) (xs : List (List ℕ)) (es : List Value) → take (length xs) es ≡ map (shell_value s) xs → length xs ≤ length es
names_bound s xs es h = as_long s s xs es (from_bound s s xs es h)
