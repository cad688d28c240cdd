-- What is found in rows of entries, with one more and one less.
use Rattle.std.proofs.Common.{◌≡◌, ℕ, zero, suc, ◌+◌, ◌<◌, ◌≤◌, List, [], ◌∷◌, ◌++◌, map, length, slice_get, slice_set, Some, None, unwrap_or, true, false, cond, Ordering, Less, Equal, Greater, is_eq, nat_cmp, nat_eq, refl, sym, ap, ◌∙◌, arith, true≢false}
use Rattle.std.specs.BTreeMap.{insert_entry, is_at}
use Rattle.std.specs.Cmp.{nat_cmp_is}
use Rattle.std.specs.List.{filter}
use Rattle.std.specs.Map.{keys_of, lookup, remove_entry, set_value}
use Rattle.std.specs.Option.{is_some}
use Rattle.std.proofs.lemmas.Bool.{eq-eqb, eqb-true}
use Rattle.object_state.specs.State.{link_cmp}
use Rattle.object_state.proofs.Keyed.{by_test, some≢none}
use Rattle.object_store.specs.Pairs.{pairs, with_first}
use Rattle.object_store.proofs.Cells.{past}

less : (n k : ℕ) → n < k → nat_cmp n k ≡ Less
less n k h = sym (nat_cmp_is n k Less h)

equal : (n k : ℕ) → n ≡ k → nat_cmp n k ≡ Equal
equal n k h = sym (nat_cmp_is n k Equal h)

greater : (n k : ℕ) → k < n → nat_cmp n k ≡ Greater
greater n k h = sym (nat_cmp_is n k Greater h)

apart : (n a : ℕ) → n < a → nat_eq n a ≡ false
apart n a h = by_test (nat_eq n a) (λ y. let e = eqb-true n a y in absurd (omega (arith, h, e))) (λ z. z)

apart_above : (n a : ℕ) → a < n → nat_eq n a ≡ false
apart_above n a h = by_test (nat_eq n a) (λ y. let e = eqb-true n a y in absurd (omega (arith, h, e))) (λ z. z)

module _ {K X : Type 0} (R : K → K → Ordering) (k : K) where
  -- how long a list of entries is with one more, and with one less
  pub longer : (es : List (K × X)) (v : X) → lookup (is_at (R k)) es ≡ None → length (insert_entry R es k v) ≡ length es + 1
  longer [] v h = refl
  longer (e ∷ es) v h = by (R k e.0) refl (longer es v)
    where
      by : (r : Ordering) → R k e.0 ≡ r → (lookup (is_at (R k)) es ≡ None → length (insert_entry R es k v) ≡ length es + 1)
          → length (insert_entry R (e ∷ es) k v) ≡ suc (length es) + 1
      by Less x rest = rw x (omega arith)
      by Equal x rest = absurd (some≢none e.1 (sym (rw x refl) ∙ h))
      by Greater x rest = rw x (let m = rest (sym (rw x refl) ∙ h) in omega (arith, m))

  pub shorter : (es : List (K × X)) (x : X) → lookup (is_at (R k)) es ≡ Some x → length es ≡ length (remove_entry (is_at (R k)) es) + 1
  shorter [] x h = absurd (some≢none x (sym h))
  shorter (e ∷ es) x h = by_test (is_at (R k) e.0)
      (λ y. rw y (omega arith))
      (λ z. rw z (let m = shorter es x (sym (rw z refl) ∙ h) in omega (arith, m)))

module _ {X : Type 0} where
  -- where the rest has nothing at two numbers, and where it begins behind them
  found_row : (a b : ℕ) (es : List (ℕ × X)) (rest : List ((ℕ × ℕ) × X)) → lookup (is_at (link_cmp (a, b))) rest ≡ None
      → lookup (is_at (link_cmp (a, b))) (with_first a es ++ rest) ≡ lookup (is_at (nat_cmp b)) es
  found_row a b [] rest h = h
  found_row a b (e ∷ es) rest h = rw (equal a a refl) (ap (λ o. cond (is_eq (nat_cmp b e.0)) (Some e.1) o) (found_row a b es rest h))

  past_row : (n a b : ℕ) (es : List (ℕ × X)) (rest : List ((ℕ × ℕ) × X)) → n < a
      → lookup (is_at (link_cmp (a, b))) (with_first n es ++ rest) ≡ lookup (is_at (link_cmp (a, b))) rest
  past_row n a b [] rest h = refl
  past_row n a b (e ∷ es) rest h = rw (greater a n h) (past_row n a b es rest h)

  before_row : (n a b : ℕ) (es : List (ℕ × X)) (rest : List ((ℕ × ℕ) × X)) → a < n → lookup (is_at (link_cmp (a, b))) rest ≡ None
      → lookup (is_at (link_cmp (a, b))) (with_first n es ++ rest) ≡ None
  before_row n a b [] rest h f = f
  before_row n a b (e ∷ es) rest h f = rw (less a n h) (before_row n a b es rest h f)

  before : (n a b : ℕ) (rows : List (List (ℕ × X))) → a < n → lookup (is_at (link_cmp (a, b))) (pairs n rows) ≡ None
  before n a b [] h = refl
  before n a b (row ∷ rows) h = before_row n a b row (pairs (n + 1) rows) h (before (n + 1) a b rows (omega (arith, h)))

  found_from : (n k a b : ℕ) (rows : List (List (ℕ × X))) → a ≡ n + k
      → lookup (is_at (link_cmp (a, b))) (pairs n rows) ≡ lookup (is_at (nat_cmp b)) (unwrap_or (slice_get rows k) [])
  found_from n k a b [] e = refl
  found_from n zero a b (row ∷ rows) e =
      let z : a ≡ n = omega (arith, e) in
      ap (λ (x : ℕ). lookup (is_at (link_cmp (x, b))) (pairs n (row ∷ rows))) z
      ∙ found_row n b row (pairs (n + 1) rows) (before (n + 1) n b rows (omega arith))
  found_from n (suc k) a b (row ∷ rows) e = past_row n a b row (pairs (n + 1) rows) (omega (arith, e)) ∙ found_from (n + 1) k a b rows (omega (arith, e))

  pub found_pair : (a b : ℕ) (rows : List (List (ℕ × X)))
      → lookup (is_at (link_cmp (a, b))) (pairs 0 rows) ≡ lookup (is_at (nat_cmp b)) (unwrap_or (slice_get rows a) [])
  found_pair a b rows = found_from 0 a a b rows (omega arith)

  pub found_in : (a b : ℕ) (rows : List (List (ℕ × X))) (row : List (ℕ × X)) → slice_get rows a ≡ Some row
      → lookup (is_at (link_cmp (a, b))) (pairs 0 rows) ≡ lookup (is_at (nat_cmp b)) row
  found_in a b rows row h = found_pair a b rows ∙ ap (λ o. lookup (is_at (nat_cmp b)) (unwrap_or o [])) h

  pub found_past : (a b : ℕ) (rows : List (List (ℕ × X))) → length rows ≤ a → lookup (is_at (link_cmp (a, b))) (pairs 0 rows) ≡ None
  found_past a b rows h = found_pair a b rows ∙ ap (λ o. lookup (is_at (nat_cmp b)) (unwrap_or o [])) (past a rows h)

  -- one entry more
  put_before : (n a b : ℕ) (v : X) (rows : List (List (ℕ × X))) → a < n → insert_entry link_cmp (pairs n rows) (a, b) v ≡ ((a, b), v) ∷ pairs n rows
  put_before n a b v [] h = refl
  put_before n a b v ([] ∷ rows) h = put_before (n + 1) a b v rows (omega (arith, h))
  put_before n a b v ((e ∷ es) ∷ rows) h = rw (less a n h) refl

  put_row : (a b : ℕ) (v : X) (es : List (ℕ × X)) (rest : List ((ℕ × ℕ) × X)) → insert_entry link_cmp rest (a, b) v ≡ ((a, b), v) ∷ rest
      → insert_entry link_cmp (with_first a es ++ rest) (a, b) v ≡ with_first a (insert_entry nat_cmp es b v) ++ rest
  put_row a b v [] rest h = h
  put_row a b v (e ∷ es) rest h = by (nat_cmp b e.0) refl (put_row a b v es rest h)
    where
      by : (r : Ordering) → nat_cmp b e.0 ≡ r
          → insert_entry link_cmp (with_first a es ++ rest) (a, b) v ≡ with_first a (insert_entry nat_cmp es b v) ++ rest
          → insert_entry link_cmp (with_first a (e ∷ es) ++ rest) (a, b) v ≡ with_first a (insert_entry nat_cmp (e ∷ es) b v) ++ rest
      by Less x more = rw (equal a a refl, x) refl
      by Equal x more = rw (equal a a refl, x) refl
      by Greater x more = rw (equal a a refl, x) (ap (λ l. ((a, e.0), e.1) ∷ l) more)

  put_past : (n a b : ℕ) (v : X) (es : List (ℕ × X)) (rest : List ((ℕ × ℕ) × X)) → n < a
      → insert_entry link_cmp (with_first n es ++ rest) (a, b) v ≡ with_first n es ++ insert_entry link_cmp rest (a, b) v
  put_past n a b v [] rest h = refl
  put_past n a b v (e ∷ es) rest h = rw (greater a n h) (ap (λ l. ((n, e.0), e.1) ∷ l) (put_past n a b v es rest h))

  put_from : (n k a b : ℕ) (v : X) (rows : List (List (ℕ × X))) → a ≡ n + k → k < length rows
      → insert_entry link_cmp (pairs n rows) (a, b) v ≡ pairs n (slice_set rows k (insert_entry nat_cmp (unwrap_or (slice_get rows k) []) b v))
  put_from n k a b v [] e h = absurd (omega (arith, h))
  put_from n zero a b v (row ∷ rows) e h =
      let z : a ≡ n = omega (arith, e) in
      ap (λ (x : ℕ). insert_entry link_cmp (pairs n (row ∷ rows)) (x, b) v) z
      ∙ put_row n b v row (pairs (n + 1) rows) (put_before (n + 1) n b v rows (omega arith))
  put_from n (suc k) a b v (row ∷ rows) e h =
      put_past n a b v row (pairs (n + 1) rows) (omega (arith, e)) ∙ ap (λ l. with_first n row ++ l) (put_from (n + 1) k a b v rows (omega (arith, e)) (omega (arith, h)))

  pub put_pair : (a b : ℕ) (v : X) (rows : List (List (ℕ × X))) → a < length rows
      → insert_entry link_cmp (pairs 0 rows) (a, b) v ≡ pairs 0 (slice_set rows a (insert_entry nat_cmp (unwrap_or (slice_get rows a) []) b v))
  put_pair a b v rows h = put_from 0 a a b v rows (omega arith) h

  pub put_in : (a b : ℕ) (v : X) (rows : List (List (ℕ × X))) (row : List (ℕ × X)) → a < length rows → slice_get rows a ≡ Some row
      → pairs 0 (slice_set rows a (insert_entry nat_cmp row b v)) ≡ insert_entry link_cmp (pairs 0 rows) (a, b) v
  put_in a b v rows row h e =
      sym (put_pair a b v rows h ∙ ap (λ o. pairs 0 (slice_set rows a (insert_entry nat_cmp (unwrap_or o []) b v))) e)

  pub same_row : (a : ℕ) (rows : List (List (ℕ × X))) (row : List (ℕ × X)) → slice_get rows a ≡ Some row → slice_set rows a row ≡ rows
  same_row a [] row e = refl
  same_row zero (r ∷ rows) row e = ap (λ x. x ∷ rows) (inside row r (sym e))
    where
      inside : (x y : List (ℕ × X)) → Some x ≡ Some y → x ≡ y
      inside x y e = cc
  same_row (suc a) (r ∷ rows) row e = ap (λ l. r ∷ l) (same_row a rows row e)

  -- one entry less
  none_row : (n a b : ℕ) (es : List (ℕ × X)) (rest : List ((ℕ × ℕ) × X)) → a < n → remove_entry (is_at (link_cmp (a, b))) rest ≡ rest
      → remove_entry (is_at (link_cmp (a, b))) (with_first n es ++ rest) ≡ with_first n es ++ rest
  none_row n a b [] rest h f = f
  none_row n a b (e ∷ es) rest h f = rw (less a n h) (ap (λ l. ((n, e.0), e.1) ∷ l) (none_row n a b es rest h f))

  none_before : (n a b : ℕ) (rows : List (List (ℕ × X))) → a < n → remove_entry (is_at (link_cmp (a, b))) (pairs n rows) ≡ pairs n rows
  none_before n a b [] h = refl
  none_before n a b (row ∷ rows) h = none_row n a b row (pairs (n + 1) rows) h (none_before (n + 1) a b rows (omega (arith, h)))

  take_row : (a b : ℕ) (es : List (ℕ × X)) (rest : List ((ℕ × ℕ) × X)) → remove_entry (is_at (link_cmp (a, b))) rest ≡ rest
      → remove_entry (is_at (link_cmp (a, b))) (with_first a es ++ rest) ≡ with_first a (remove_entry (is_at (nat_cmp b)) es) ++ rest
  take_row a b [] rest h = h
  take_row a b (e ∷ es) rest h = by (nat_cmp b e.0) refl (take_row a b es rest h)
    where
      by : (r : Ordering) → nat_cmp b e.0 ≡ r
          → remove_entry (is_at (link_cmp (a, b))) (with_first a es ++ rest) ≡ with_first a (remove_entry (is_at (nat_cmp b)) es) ++ rest
          → remove_entry (is_at (link_cmp (a, b))) (with_first a (e ∷ es) ++ rest)
          ≡ with_first a (remove_entry (is_at (nat_cmp b)) (e ∷ es)) ++ rest
      by Less x more = rw (equal a a refl, x) (ap (λ l. ((a, e.0), e.1) ∷ l) more)
      by Equal x more = rw (equal a a refl, x) refl
      by Greater x more = rw (equal a a refl, x) (ap (λ l. ((a, e.0), e.1) ∷ l) more)

  take_past : (n a b : ℕ) (es : List (ℕ × X)) (rest : List ((ℕ × ℕ) × X)) → n < a
      → remove_entry (is_at (link_cmp (a, b))) (with_first n es ++ rest) ≡ with_first n es ++ remove_entry (is_at (link_cmp (a, b))) rest
  take_past n a b [] rest h = refl
  take_past n a b (e ∷ es) rest h = rw (greater a n h) (ap (λ l. ((n, e.0), e.1) ∷ l) (take_past n a b es rest h))

  take_from : (n k a b : ℕ) (rows : List (List (ℕ × X))) → a ≡ n + k → k < length rows → remove_entry (is_at (link_cmp (a, b))) (pairs n rows)
      ≡ pairs n (slice_set rows k (remove_entry (is_at (nat_cmp b)) (unwrap_or (slice_get rows k) [])))
  take_from n k a b [] e h = absurd (omega (arith, h))
  take_from n zero a b (row ∷ rows) e h =
      let z : a ≡ n = omega (arith, e) in
      ap (λ (x : ℕ). remove_entry (is_at (link_cmp (x, b))) (pairs n (row ∷ rows))) z
      ∙ take_row n b row (pairs (n + 1) rows) (none_before (n + 1) n b rows (omega arith))
  take_from n (suc k) a b (row ∷ rows) e h =
      take_past n a b row (pairs (n + 1) rows) (omega (arith, e)) ∙ ap (λ l. with_first n row ++ l) (take_from (n + 1) k a b rows (omega (arith, e)) (omega (arith, h)))

  pub take_pair : (a b : ℕ) (rows : List (List (ℕ × X))) → a < length rows → remove_entry (is_at (link_cmp (a, b))) (pairs 0 rows)
      ≡ pairs 0 (slice_set rows a (remove_entry (is_at (nat_cmp b)) (unwrap_or (slice_get rows a) [])))
  take_pair a b rows h = take_from 0 a a b rows (omega arith) h

  pub take_in : (a b : ℕ) (rows : List (List (ℕ × X))) (row : List (ℕ × X)) → a < length rows → slice_get rows a ≡ Some row
      → pairs 0 (slice_set rows a (remove_entry (is_at (nat_cmp b)) row)) ≡ remove_entry (is_at (link_cmp (a, b))) (pairs 0 rows)
  take_in a b rows row h e =
      sym (take_pair a b rows h ∙ ap (λ o. pairs 0 (slice_set rows a (remove_entry (is_at (nat_cmp b)) (unwrap_or o [])))) e)

  pub take_none : (a b : ℕ) (es : List ((ℕ × ℕ) × X)) → is_some (lookup (is_at (link_cmp (a, b))) es) ≡ false → remove_entry (is_at (link_cmp (a, b))) es ≡ es
  take_none a b [] h = refl
  take_none a b (e ∷ es) h = by_test (is_at (link_cmp (a, b)) e.0)
      (λ y. absurd (true≢false (sym (rw y refl) ∙ h)))
      (λ z. rw z (ap (λ l. e ∷ l) (take_none a b es (sym (rw z refl) ∙ h))))

  -- another value of an entry
  kept_row : (n a b : ℕ) (v : X) (es : List (ℕ × X)) (rest : List ((ℕ × ℕ) × X)) → a < n → set_value (is_at (link_cmp (a, b))) rest v ≡ rest
      → set_value (is_at (link_cmp (a, b))) (with_first n es ++ rest) v ≡ with_first n es ++ rest
  kept_row n a b v [] rest h f = f
  kept_row n a b v (e ∷ es) rest h f = rw (less a n h) (ap (λ l. ((n, e.0), e.1) ∷ l) (kept_row n a b v es rest h f))

  kept_before : (n a b : ℕ) (v : X) (rows : List (List (ℕ × X))) → a < n → set_value (is_at (link_cmp (a, b))) (pairs n rows) v ≡ pairs n rows
  kept_before n a b v [] h = refl
  kept_before n a b v (row ∷ rows) h = kept_row n a b v row (pairs (n + 1) rows) h (kept_before (n + 1) a b v rows (omega (arith, h)))

  set_row : (a b : ℕ) (v : X) (es : List (ℕ × X)) (rest : List ((ℕ × ℕ) × X)) → set_value (is_at (link_cmp (a, b))) rest v ≡ rest
      → set_value (is_at (link_cmp (a, b))) (with_first a es ++ rest) v ≡ with_first a (set_value (is_at (nat_cmp b)) es v) ++ rest
  set_row a b v [] rest h = h
  set_row a b v (e ∷ es) rest h = by (nat_cmp b e.0) refl (set_row a b v es rest h)
    where
      by : (r : Ordering) → nat_cmp b e.0 ≡ r
          → set_value (is_at (link_cmp (a, b))) (with_first a es ++ rest) v ≡ with_first a (set_value (is_at (nat_cmp b)) es v) ++ rest
          → set_value (is_at (link_cmp (a, b))) (with_first a (e ∷ es) ++ rest) v
          ≡ with_first a (set_value (is_at (nat_cmp b)) (e ∷ es) v) ++ rest
      by Less x more = rw (equal a a refl, x) (ap (λ l. ((a, e.0), e.1) ∷ l) more)
      by Equal x more = rw (equal a a refl, x) refl
      by Greater x more = rw (equal a a refl, x) (ap (λ l. ((a, e.0), e.1) ∷ l) more)

  set_past : (n a b : ℕ) (v : X) (es : List (ℕ × X)) (rest : List ((ℕ × ℕ) × X)) → n < a
      → set_value (is_at (link_cmp (a, b))) (with_first n es ++ rest) v ≡ with_first n es ++ set_value (is_at (link_cmp (a, b))) rest v
  set_past n a b v [] rest h = refl
  set_past n a b v (e ∷ es) rest h = rw (greater a n h) (ap (λ l. ((n, e.0), e.1) ∷ l) (set_past n a b v es rest h))

  set_from : (n k a b : ℕ) (v : X) (rows : List (List (ℕ × X))) → a ≡ n + k → k < length rows → set_value (is_at (link_cmp (a, b))) (pairs n rows) v
      ≡ pairs n (slice_set rows k (set_value (is_at (nat_cmp b)) (unwrap_or (slice_get rows k) []) v))
  set_from n k a b v [] e h = absurd (omega (arith, h))
  set_from n zero a b v (row ∷ rows) e h =
      let z : a ≡ n = omega (arith, e) in
      ap (λ (x : ℕ). set_value (is_at (link_cmp (x, b))) (pairs n (row ∷ rows)) v) z
      ∙ set_row n b v row (pairs (n + 1) rows) (kept_before (n + 1) n b v rows (omega arith))
  set_from n (suc k) a b v (row ∷ rows) e h =
      set_past n a b v row (pairs (n + 1) rows) (omega (arith, e)) ∙ ap (λ l. with_first n row ++ l) (set_from (n + 1) k a b v rows (omega (arith, e)) (omega (arith, h)))

  pub set_in : (a b : ℕ) (v : X) (rows : List (List (ℕ × X))) (row : List (ℕ × X)) → a < length rows → slice_get rows a ≡ Some row
      → pairs 0 (slice_set rows a (set_value (is_at (nat_cmp b)) row v)) ≡ set_value (is_at (link_cmp (a, b))) (pairs 0 rows) v
  set_in a b v rows row h e =
      sym (set_from 0 a a b v rows (omega arith) h
      ∙ ap (λ o. pairs 0 (slice_set rows a (set_value (is_at (nat_cmp b)) (unwrap_or o []) v))) e)

  -- the entries of one row
  of_row : (a : ℕ) (es : List (ℕ × X)) (rest : List ((ℕ × ℕ) × X)) → filter (λ (e : (ℕ × ℕ) × X). nat_eq e.0.0 a) rest ≡ []
      → filter (λ (e : (ℕ × ℕ) × X). nat_eq e.0.0 a) (with_first a es ++ rest) ≡ with_first a es
  of_row a [] rest h = h
  of_row a (e ∷ es) rest h = rw (eq-eqb a a refl) (ap (λ l. ((a, e.0), e.1) ∷ l) (of_row a es rest h))

  of_other : (n a : ℕ) (es : List (ℕ × X)) (rest : List ((ℕ × ℕ) × X)) → nat_eq n a ≡ false
      → filter (λ (e : (ℕ × ℕ) × X). nat_eq e.0.0 a) (with_first n es ++ rest) ≡ filter (λ (e : (ℕ × ℕ) × X). nat_eq e.0.0 a) rest
  of_other n a [] rest h = refl
  of_other n a (e ∷ es) rest h = rw h (of_other n a es rest h)

  none_of : (n a : ℕ) (rows : List (List (ℕ × X))) → a < n → filter (λ (e : (ℕ × ℕ) × X). nat_eq e.0.0 a) (pairs n rows) ≡ []
  none_of n a [] h = refl
  none_of n a (row ∷ rows) h = of_other n a row (pairs (n + 1) rows) (apart_above n a h) ∙ none_of (n + 1) a rows (omega (arith, h))

  row_from : (n k a : ℕ) (rows : List (List (ℕ × X))) → a ≡ n + k
      → filter (λ (e : (ℕ × ℕ) × X). nat_eq e.0.0 a) (pairs n rows) ≡ with_first a (unwrap_or (slice_get rows k) [])
  row_from n k a [] e = refl
  row_from n zero a (row ∷ rows) e =
      let z : a ≡ n = omega (arith, e) in
      ap (λ (x : ℕ). filter (λ (e : (ℕ × ℕ) × X). nat_eq e.0.0 x) (pairs n (row ∷ rows))) z
      ∙ of_row n row (pairs (n + 1) rows) (none_of (n + 1) n rows (omega arith)) ∙ ap (λ (x : ℕ). with_first x row) (sym z)
  row_from n (suc k) a (row ∷ rows) e = of_other n a row (pairs (n + 1) rows) (apart n a (omega (arith, e))) ∙ row_from (n + 1) k a rows (omega (arith, e))

  seconds_of : (a : ℕ) (es : List (ℕ × X)) → map (λ (e : (ℕ × ℕ) × X). e.0.1) (with_first a es) ≡ keys_of es
  seconds_of a [] = refl
  seconds_of a (e ∷ es) = ap (λ l. e.0 ∷ l) (seconds_of a es)

  values_of : (a : ℕ) (es : List (ℕ × X)) → map (λ (e : (ℕ × ℕ) × X). e.1) (with_first a es) ≡ map (λ (e : ℕ × X). e.1) es
  values_of a [] = refl
  values_of a (e ∷ es) = ap (λ l. e.1 ∷ l) (values_of a es)

  pub row_seconds : (a : ℕ) (rows : List (List (ℕ × X)))
      → map (λ (e : (ℕ × ℕ) × X). e.0.1) (filter (λ (e : (ℕ × ℕ) × X). nat_eq e.0.0 a) (pairs 0 rows)) ≡ keys_of (unwrap_or (slice_get rows a) [])
  row_seconds a rows = ap (map (λ (e : (ℕ × ℕ) × X). e.0.1)) (row_from 0 a a rows (omega arith)) ∙ seconds_of a (unwrap_or (slice_get rows a) [])

  pub row_values : (a : ℕ) (rows : List (List (ℕ × X)))
      → map (λ (e : (ℕ × ℕ) × X). e.1) (filter (λ (e : (ℕ × ℕ) × X). nat_eq e.0.0 a) (pairs 0 rows)) ≡ map (λ (e : ℕ × X). e.1) (unwrap_or (slice_get rows a) [])
  row_values a rows = ap (map (λ (e : (ℕ × ℕ) × X). e.1)) (row_from 0 a a rows (omega arith)) ∙ values_of a (unwrap_or (slice_get rows a) [])

  pub no_seconds : (a : ℕ) (rows : List (List (ℕ × X))) → length rows ≤ a
      → map (λ (e : (ℕ × ℕ) × X). e.0.1) (filter (λ (e : (ℕ × ℕ) × X). nat_eq e.0.0 a) (pairs 0 rows)) ≡ []
  no_seconds a rows h = row_seconds a rows ∙ ap (λ o. keys_of (unwrap_or o [])) (past a rows h)

  pub seconds_in : (a : ℕ) (rows : List (List (ℕ × X))) (row : List (ℕ × X)) → slice_get rows a ≡ Some row
      → map (λ (e : (ℕ × ℕ) × X). e.0.1) (filter (λ (e : (ℕ × ℕ) × X). nat_eq e.0.0 a) (pairs 0 rows)) ≡ keys_of row
  seconds_in a rows row h = row_seconds a rows ∙ ap (λ o. keys_of (unwrap_or o [])) h

  pub no_values : (a : ℕ) (rows : List (List (ℕ × X))) → length rows ≤ a
      → map (λ (e : (ℕ × ℕ) × X). e.1) (filter (λ (e : (ℕ × ℕ) × X). nat_eq e.0.0 a) (pairs 0 rows)) ≡ []
  no_values a rows h = row_values a rows ∙ ap (λ o. map (λ (e : ℕ × X). e.1) (unwrap_or o [])) (past a rows h)

  pub values_in : (a : ℕ) (rows : List (List (ℕ × X))) (row : List (ℕ × X)) → slice_get rows a ≡ Some row
      → map (λ (e : (ℕ × ℕ) × X). e.1) (filter (λ (e : (ℕ × ℕ) × X). nat_eq e.0.0 a) (pairs 0 rows)) ≡ map (λ (e : ℕ × X). e.1) row
  values_in a rows row h = row_values a rows ∙ ap (λ o. map (λ (e : ℕ × X). e.1) (unwrap_or o [])) h

  -- where there is an entry, there is a row
  pub row_there : (a b : ℕ) (rows : List (List (ℕ × X))) → is_some (lookup (is_at (link_cmp (a, b))) (pairs 0 rows)) ≡ true → a < length rows
  row_there a b rows h = by_below a (length rows) (λ y. y)
      (λ n. absurd (true≢false (sym h ∙ ap is_some (found_past a b rows n))))
    where
      by_below : {P : Type 0} (n m : ℕ) → (n < m → P) → (m ≤ n → P) → P
      by_below n zero f g = g (omega arith)
      by_below zero (suc m) f g = f (omega arith)
      by_below (suc n) (suc m) f g = by_below n m (λ y. f (omega (arith, y))) (λ y. g (omega (arith, y)))

  -- an empty row adds no entry
  more_from : (n : ℕ) (rows : List (List (ℕ × X))) → pairs n (rows ++ [] ∷ []) ≡ pairs n rows
  more_from n [] = refl
  more_from n (row ∷ rows) = ap (λ l. with_first n row ++ l) (more_from (n + 1) rows)

  pub one_row_more : (rows : List (List (ℕ × X))) → pairs 0 (rows ++ [] ∷ []) ≡ pairs 0 rows
  one_row_more rows = more_from 0 rows
