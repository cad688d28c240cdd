-- What is found in numbered cells, with one more, one less, or another value.
use Rattle.std.proofs.Common.{◌≡◌, ℕ, zero, suc, ◌+◌, ◌<◌, ◌≤◌, List, [], ◌∷◌, ◌++◌, length, slice_get, slice_set, get_or, Option, Some, None, is_some, true, false, Less, Equal, Greater, nat_cmp, refl, sym, ap, ◌∙◌, arith}
use Rattle.std.specs.BTreeMap.{insert_entry, is_at}
use Rattle.std.specs.Cmp.{nat_cmp_is}
use Rattle.std.specs.Map.{lookup, remove_entry, set_value}
use Rattle.std.specs.Option.{option_map, option_map_or}
use Rattle.object_store.specs.Cells.{cell_in, entries}

less : (n k : ℕ) → n < k → nat_cmp n k ≡ Less
less n k h = sym (nat_cmp_is n k Less h)

equal : (n k : ℕ) → n ≡ k → nat_cmp n k ≡ Equal
equal n k h = sym (nat_cmp_is n k Equal h)

greater : (n k : ℕ) → k < n → nat_cmp n k ≡ Greater
greater n k h = sym (nat_cmp_is n k Greater h)

module _ {X : Type 0} where
  -- nothing stands before the first number
  before : (n k : ℕ) (cells : List (Option X)) → k < n → lookup (is_at (nat_cmp k)) (entries n cells) ≡ None
  before n k [] h = refl
  before n k (None ∷ cells) h = before (n + 1) k cells (omega (arith, h))
  before n k (Some x ∷ cells) h = rw (less k n h) (before (n + 1) k cells (omega (arith, h)))

  found_from : (n k m : ℕ) (cells : List (Option X)) → m ≡ n + k → lookup (is_at (nat_cmp m)) (entries n cells) ≡ cell_in (slice_get cells k)
  found_from n k m [] e = refl
  found_from n zero m (None ∷ cells) e = before (n + 1) m cells (omega (arith, e))
  found_from n zero m (Some x ∷ cells) e = rw (equal m n (omega (arith, e))) refl
  found_from n (suc k) m (None ∷ cells) e = found_from (n + 1) k m cells (omega (arith, e))
  found_from n (suc k) m (Some x ∷ cells) e = rw (greater m n (omega (arith, e))) (found_from (n + 1) k m cells (omega (arith, e)))

  pub found : (k : ℕ) (cells : List (Option X)) → lookup (is_at (nat_cmp k)) (entries 0 cells) ≡ cell_in (slice_get cells k)
  found k cells = found_from 0 k k cells (omega arith)

  first_from : (n k : ℕ) (x : X) (cells : List (Option X)) → k < n → insert_entry nat_cmp (entries n cells) k x ≡ (k, x) ∷ entries n cells
  first_from n k x [] h = refl
  first_from n k x (None ∷ cells) h = first_from (n + 1) k x cells (omega (arith, h))
  first_from n k x (Some y ∷ cells) h = rw (less k n h) refl

  put_from : (n k m : ℕ) (x : X) (cells : List (Option X)) → m ≡ n + k → k < length cells
      → entries n (slice_set cells k (Some x)) ≡ insert_entry nat_cmp (entries n cells) m x
  put_from n k m x [] e h = absurd (omega (arith, h))
  put_from n zero m x (None ∷ cells) e h =
      let z : n ≡ m = omega (arith, e) in ap (λ p. (p, x) ∷ entries (n + 1) cells) z ∙ sym (first_from (n + 1) m x cells (omega (arith, e)))
  put_from n zero m x (Some y ∷ cells) e h = rw (equal m n (omega (arith, e))) refl
  put_from n (suc k) m x (None ∷ cells) e h = put_from (n + 1) k m x cells (omega (arith, e)) (omega (arith, h))
  put_from n (suc k) m x (Some y ∷ cells) e h =
      rw (greater m n (omega (arith, e))) (ap (λ es. (n, y) ∷ es) (put_from (n + 1) k m x cells (omega (arith, e)) (omega (arith, h))))

  pub put : (k : ℕ) (x : X) (cells : List (Option X)) → k < length cells → entries 0 (slice_set cells k (Some x)) ≡ insert_entry nat_cmp (entries 0 cells) k x
  put k x cells h = put_from 0 k k x cells (omega arith) h

  none_from : (n k : ℕ) (cells : List (Option X)) → k < n → remove_entry (is_at (nat_cmp k)) (entries n cells) ≡ entries n cells
  none_from n k [] h = refl
  none_from n k (None ∷ cells) h = none_from (n + 1) k cells (omega (arith, h))
  none_from n k (Some x ∷ cells) h = rw (less k n h) (ap (λ es. (n, x) ∷ es) (none_from (n + 1) k cells (omega (arith, h))))

  taken_from : (n k m : ℕ) (cells : List (Option X)) → m ≡ n + k → remove_entry (is_at (nat_cmp m)) (entries n cells) ≡ entries n (slice_set cells k None)
  taken_from n k m [] e = refl
  taken_from n zero m (None ∷ cells) e = none_from (n + 1) m cells (omega (arith, e))
  taken_from n zero m (Some x ∷ cells) e = rw (equal m n (omega (arith, e))) refl
  taken_from n (suc k) m (None ∷ cells) e = taken_from (n + 1) k m cells (omega (arith, e))
  taken_from n (suc k) m (Some x ∷ cells) e =
      rw (greater m n (omega (arith, e))) (ap (λ es. (n, x) ∷ es) (taken_from (n + 1) k m cells (omega (arith, e))))

  pub taken : (k : ℕ) (cells : List (Option X)) → remove_entry (is_at (nat_cmp k)) (entries 0 cells) ≡ entries 0 (slice_set cells k None)
  taken k cells = taken_from 0 k k cells (omega arith)

  changed_from : (n k m : ℕ) (x y : X) (cells : List (Option X)) → m ≡ n + k → cell_in (slice_get cells k) ≡ Some x
      → set_value (is_at (nat_cmp m)) (entries n cells) y ≡ entries n (slice_set cells k (Some y))
  changed_from n k m x y [] e h = absurd (cc)
  changed_from n zero m x y (None ∷ cells) e h = absurd (cc)
  changed_from n zero m x y (Some z ∷ cells) e h = rw (equal m n (omega (arith, e))) refl
  changed_from n (suc k) m x y (None ∷ cells) e h = changed_from (n + 1) k m x y cells (omega (arith, e)) h
  changed_from n (suc k) m x y (Some z ∷ cells) e h =
      rw (greater m n (omega (arith, e))) (ap (λ es. (n, z) ∷ es) (changed_from (n + 1) k m x y cells (omega (arith, e)) h))

  pub changed : (k : ℕ) (x y : X) (cells : List (Option X)) → cell_in (slice_get cells k) ≡ Some x
      → set_value (is_at (nat_cmp k)) (entries 0 cells) y ≡ entries 0 (slice_set cells k (Some y))
  changed k x y cells h = changed_from 0 k k x y cells (omega arith) h

  longer_from : (n : ℕ) (cells : List (Option X)) → entries n (cells ++ None ∷ []) ≡ entries n cells
  longer_from n [] = refl
  longer_from n (None ∷ cells) = longer_from (n + 1) cells
  longer_from n (Some x ∷ cells) = ap (λ es. (n, x) ∷ es) (longer_from (n + 1) cells)

  -- a cell without a value adds no entry
  pub longer : (cells : List (Option X)) → entries 0 (cells ++ None ∷ []) ≡ entries 0 cells
  longer cells = longer_from 0 cells

  more_from : (n k : ℕ) (x : X) (cells : List (Option X)) → k < length cells → cell_in (slice_get cells k) ≡ None
      → length (entries n (slice_set cells k (Some x))) ≡ length (entries n cells) + 1
  more_from n k x [] h f = absurd (omega (arith, h))
  more_from n zero x (None ∷ cells) h f = omega arith
  more_from n zero x (Some z ∷ cells) h f = absurd (cc)
  more_from n (suc k) x (None ∷ cells) h f = more_from (n + 1) k x cells (omega (arith, h)) f
  more_from n (suc k) x (Some z ∷ cells) h f = let r = more_from (n + 1) k x cells (omega (arith, h)) f in omega (arith, r)

  pub more : (k : ℕ) (x : X) (cells : List (Option X)) → k < length cells → cell_in (slice_get cells k) ≡ None
      → length (entries 0 (slice_set cells k (Some x))) ≡ length (entries 0 cells) + 1
  more k x cells h f = more_from 0 k x cells h f

  fewer_from : (n k : ℕ) (x : X) (cells : List (Option X)) → cell_in (slice_get cells k) ≡ Some x
      → length (entries n cells) ≡ length (entries n (slice_set cells k None)) + 1
  fewer_from n k x [] f = absurd (cc)
  fewer_from n zero x (None ∷ cells) f = absurd (cc)
  fewer_from n zero x (Some z ∷ cells) f = omega arith
  fewer_from n (suc k) x (None ∷ cells) f = fewer_from (n + 1) k x cells f
  fewer_from n (suc k) x (Some z ∷ cells) f = let r = fewer_from (n + 1) k x cells f in omega (arith, r)

  pub fewer : (k : ℕ) (x : X) (cells : List (Option X)) → cell_in (slice_get cells k) ≡ Some x
      → length (entries 0 cells) ≡ length (entries 0 (slice_set cells k None)) + 1
  fewer k x cells f = fewer_from 0 k x cells f

  same_from : (n k : ℕ) (x y : X) (cells : List (Option X)) → cell_in (slice_get cells k) ≡ Some x
      → length (entries n (slice_set cells k (Some y))) ≡ length (entries n cells)
  same_from n k x y [] f = absurd (cc)
  same_from n zero x y (None ∷ cells) f = absurd (cc)
  same_from n zero x y (Some z ∷ cells) f = refl
  same_from n (suc k) x y (None ∷ cells) f = same_from (n + 1) k x y cells f
  same_from n (suc k) x y (Some z ∷ cells) f = ap suc (same_from (n + 1) k x y cells f)

  pub same : (k : ℕ) (x y : X) (cells : List (Option X)) → cell_in (slice_get cells k) ≡ Some x
      → length (entries 0 (slice_set cells k (Some y))) ≡ length (entries 0 cells)
  same k x y cells f = same_from 0 k x y cells f

  counted_from : (n : ℕ) (cells : List (Option X)) → length (entries n cells) ≤ length cells
  counted_from n [] = omega arith
  counted_from n (None ∷ cells) = let r = counted_from (n + 1) cells in omega (arith, r)
  counted_from n (Some x ∷ cells) = let r = counted_from (n + 1) cells in omega (arith, r)

  -- there are no more values than cells
  pub counted_few : (cells : List (Option X)) → length (entries 0 cells) ≤ length cells
  counted_few cells = counted_from 0 cells

  pub none_there : (k : ℕ) (cells : List (Option X)) → cell_in (slice_get cells k) ≡ None → slice_set cells k None ≡ cells
  none_there k [] h = refl
  none_there zero (None ∷ cells) h = refl
  none_there zero (Some x ∷ cells) h = absurd (cc)
  none_there (suc k) (c ∷ cells) h = ap (λ r. c ∷ r) (none_there k cells h)

  -- a cell that was cleared has no value
  pub none_left : (k : ℕ) (cells : List (Option X)) → cell_in (slice_get (slice_set cells k None) k) ≡ None
  none_left k [] = refl
  none_left zero (c ∷ cells) = refl
  none_left (suc k) (c ∷ cells) = none_left k cells

  -- where there is no value, none is taken
  pub absent : (k : ℕ) (cells : List (Option X)) → cell_in (slice_get cells k) ≡ None → entries 0 cells ≡ remove_entry (is_at (nat_cmp k)) (entries 0 cells)
  absent k cells h = ap (λ r. entries 0 r) (sym (none_there k cells h)) ∙ sym (taken k cells)

  -- a value stands in a cell that is there
  pub within : (k : ℕ) (x : X) (cells : List (Option X)) → cell_in (slice_get cells k) ≡ Some x → k < length cells
  within k x [] h = absurd (cc)
  within zero x (c ∷ cells) h = omega arith
  within (suc k) x (c ∷ cells) h = let r = within k x cells h in omega (arith, r)

  -- a value that is put changes no length
  pub set_long : (k : ℕ) (x : X) (cells : List (Option X)) → length (slice_set cells k (Some x)) ≡ length cells
  set_long k x [] = refl
  set_long zero x (c ∷ cells) = refl
  set_long (suc k) x (c ∷ cells) = ap suc (set_long k x cells)

  pub free_in : (k : ℕ) (cells old : List (Option X)) → entries 0 cells ≡ entries 0 old → lookup (is_at (nat_cmp k)) (entries 0 old) ≡ None
      → cell_in (slice_get cells k) ≡ None
  free_in k cells old e h = sym (found k cells) ∙ ap (λ es. lookup (is_at (nat_cmp k)) es) e ∙ h

  there_by : (k : ℕ) (o : Option X) (cells : List (Option X)) → cell_in (slice_get cells k) ≡ o → is_some o ≡ true → k < length cells
  there_by k None cells e h = absurd (cc)
  there_by k (Some x) cells e h = within k x cells e

  pub there : (k : ℕ) (cells : List (Option X)) → is_some (cell_in (slice_get cells k)) ≡ true → k < length cells
  there k cells h = there_by k _ cells refl h

  pub cleared_long : (k : ℕ) (cells : List (Option X)) → length (slice_set cells k None) ≡ length cells
  cleared_long k [] = refl
  cleared_long zero (c ∷ cells) = refl
  cleared_long (suc k) (c ∷ cells) = ap suc (cleared_long k cells)

  count_by : (k : ℕ) (o : Option X) (cells : List (Option X)) → cell_in (slice_get cells k) ≡ o → is_some o ≡ true
      → length (entries 0 cells) ≡ length (entries 0 (slice_set cells k None)) + 1
  count_by k None cells e h = absurd (cc)
  count_by k (Some x) cells e h = fewer k x cells e

  pub taken_count : (k : ℕ) (cells : List (Option X)) → is_some (cell_in (slice_get cells k)) ≡ true
      → length (entries 0 cells) ≡ length (entries 0 (slice_set cells k None)) + 1
  taken_count k cells h = count_by k _ cells refl h

  pub none_by : (o : Option X) → is_some o ≡ false → o ≡ None
  none_by None h = refl
  none_by (Some x) h = absurd (cc)

  pub unfound : (k : ℕ) (cells : List (Option X)) → is_some (lookup (is_at (nat_cmp k)) (entries 0 cells)) ≡ false → cell_in (slice_get cells k) ≡ None
  unfound k cells h = sym (found k cells) ∙ none_by _ h

module _ {X : Type 0} where
  -- a cell without a value that is cleared
  pub none_set : (k : ℕ) (cells : List (Option X)) → is_some (cell_in (slice_get cells k)) ≡ false → cells ≡ slice_set cells k None
  none_set k cells h = sym (none_there k cells (none_by _ h))

module _ {X : Type 0} where
  pub taken_count_found : (k : ℕ) (cells : List (Option X)) → is_some (lookup (is_at (nat_cmp k)) (entries 0 cells)) ≡ true
      → length (entries 0 cells) ≡ length (entries 0 (slice_set cells k None)) + 1
  taken_count_found k cells h = taken_count k cells (ap is_some (sym (found k cells)) ∙ h)

module _ {A : Type 0} where
  pub one_more : (xs : List A) (x : A) → length (xs ++ x ∷ []) ≡ length xs + 1
  one_more [] x = refl
  one_more (y ∷ xs) x = let r = one_more xs x in omega (arith, r)

module _ {A : Type 0} where
  pub past : (k : ℕ) (xs : List A) → length xs ≤ k → slice_get xs k ≡ None
  past k [] h = refl
  past zero (x ∷ xs) h = absurd (omega (arith, h))
  past (suc k) (x ∷ xs) h = past k xs (omega (arith, h))

  pub at : (k : ℕ) (xs : List A) (x : A) → k < length xs → x ≡ get_or xs k x → slice_get xs k ≡ Some x
  at k [] x h e = absurd (omega (arith, h))
  at zero (y ∷ ys) x h e = ap Some (sym e)
  at (suc k) (y ∷ ys) x h e = at k ys x (omega (arith, h)) e

module _ {X : Type 0} (k : ℕ) (f : X → X) (cells : List (Option X)) (h : k < length cells) where
  -- another value of a cell that has one
  pub changed_if : (c : Option X) → c ≡ get_or cells k c → entries 0 (slice_set cells k (option_map f c))
      ≡ option_map_or (λ x. set_value (is_at (nat_cmp k)) (entries 0 cells) (f x)) (lookup (is_at (nat_cmp k)) (entries 0 cells)) (entries 0 cells)
  changed_if None e =
      let seen = at k cells None h e in
      ap (λ r. entries 0 r) (none_there k cells (ap cell_in seen))
      ∙ sym (ap (λ o. option_map_or (λ x. set_value (is_at (nat_cmp k)) (entries 0 cells) (f x)) o (entries 0 cells)) (found k cells ∙ ap cell_in seen))
  changed_if (Some x) e =
      let seen = at k cells (Some x) h e in
      sym (changed k x (f x) cells (ap cell_in seen))
      ∙ sym (ap (λ o. option_map_or (λ x. set_value (is_at (nat_cmp k)) (entries 0 cells) (f x)) o (entries 0 cells)) (found k cells ∙ ap cell_in seen))

  pub counted_if : (c : Option X) → c ≡ get_or cells k c → length (entries 0 (slice_set cells k (option_map f c))) ≡ length (entries 0 cells)
  counted_if None e = ap (λ r. length (entries 0 r)) (none_there k cells (ap cell_in (at k cells None h e)))
  counted_if (Some x) e = same k x (f x) cells (ap cell_in (at k cells (Some x) h e))

  pub long_if : (c : Option X) → length (slice_set cells k (option_map f c)) ≡ length cells
  long_if None = cleared_long k cells
  long_if (Some x) = set_long k (f x) cells

module _ {X : Type 0} (k : ℕ) (f : X → X) (cells : List (Option X)) where
  -- past the last cell nothing changes
  pub slot_kept : length cells ≤ k → entries 0 cells
      ≡ option_map_or (λ x. set_value (is_at (nat_cmp k)) (entries 0 cells) (f x)) (lookup (is_at (nat_cmp k)) (entries 0 cells)) (entries 0 cells)
  slot_kept h = sym (ap (λ o. option_map_or (λ x. set_value (is_at (nat_cmp k)) (entries 0 cells) (f x)) o (entries 0 cells))
      (found k cells ∙ ap cell_in (past k cells h)))
