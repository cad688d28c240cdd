-- What is found in cells that stand in pages.
use Rattle.std.proofs.Common.{◌≡◌, ℕ, zero, suc, ◌+◌, ◌*◌, ◌-◌, ◌<◌, ◌≤◌, List, [], ◌∷◌, ◌++◌, length, slice_get, slice_set, Option, Some, None, unwrap_or, refl, sym, ap, subst, ◌∙◌, arith}
use Rattle.std.proofs.Common.{is_some, true, nat_cmp, OnErr, Result, Ok, Err, drop, get_or, map}
use Rattle.std.specs.BTreeMap.{is_at}
use Rattle.std.specs.Map.{keys_of, lookup, set_value}
use Rattle.std.specs.Option.{option_map, option_map_or}
use Rattle.object_store.specs.Cells.{cell_in, entries, values_in}
use Rattle.object_store.proofs.Cells.{changed, found, none_there, same}
use Rattle.object_store.specs.Pages.{AreWhole, all_cells, empty_cells, page_cells}

pub on_err : {T E P : Type 0} (r : Result T E) → P → OnErr r P
on_err (Ok x) h = tt
on_err (Err e) h = h

drop_all : {A : Type 0} (xs : List A) (k : ℕ) → length xs ≤ k → drop k xs ≡ []
drop_all [] zero h = refl
drop_all [] (suc k) h = refl
drop_all (x ∷ xs) zero h = absurd (omega (arith, h))
drop_all (x ∷ xs) (suc k) h = drop_all xs k (omega (arith, h))

three : (xs ys zs : List ℕ) → (xs ++ ys) ++ zs ≡ xs ++ (ys ++ zs)
three [] ys zs = refl
three (x ∷ xs) ys zs = ap (λ r. x ∷ r) (three xs ys zs)

no_more : (xs : List ℕ) → xs ++ [] ≡ xs
no_more [] = refl
no_more (x ∷ xs) = ap (λ r. x ∷ r) (no_more xs)

pub get_there : {A : Type 0} (xs : List A) (i : ℕ) (d : A) → i < length xs → slice_get xs i ≡ Some (get_or xs i d)
get_there [] i d h = absurd (omega (arith, h))
get_there (x ∷ xs) zero d h = refl
get_there (x ∷ xs) (suc i) d h = get_there xs i d (omega (arith, h))

pub set_len : {A : Type 0} (xs : List A) (k : ℕ) (x : A) → length (slice_set xs k x) ≡ length xs
set_len [] k x = refl
set_len (y ∷ xs) zero x = refl
set_len (y ∷ xs) (suc k) x = ap suc (set_len xs k x)

pub set_get : {A : Type 0} (xs : List A) (k : ℕ) (x : A) → k < length xs → slice_get (slice_set xs k x) k ≡ Some x
set_get [] k x h = absurd (omega (arith, h))
set_get (y ∷ xs) zero x h = refl
set_get (y ∷ xs) (suc k) x h = set_get xs k x (omega (arith, h))

module _ {X : Type 0} where
  -- past one list in the next
  get_behind : (xs ys : List X) (n k : ℕ) → length xs ≡ n → slice_get (xs ++ ys) (n + k) ≡ slice_get ys k
  get_behind [] ys n k e = let z : n + k ≡ k = omega (arith, e) in rw z refl
  get_behind (x ∷ xs) ys zero k e = absurd (omega (arith, e))
  get_behind (x ∷ xs) ys (suc n) k e =
      let z : suc n + k ≡ suc (n + k) = omega arith in rw z (get_behind xs ys n k (omega (arith, e)))

  get_before : (xs ys : List X) (k : ℕ) → k < length xs → slice_get (xs ++ ys) k ≡ slice_get xs k
  get_before [] ys k h = absurd (omega (arith, h))
  get_before (x ∷ xs) ys zero h = refl
  get_before (x ∷ xs) ys (suc k) h = get_before xs ys k (omega (arith, h))

  set_behind : (xs ys : List X) (n k : ℕ) (c : X) → length xs ≡ n → slice_set (xs ++ ys) (n + k) c ≡ xs ++ slice_set ys k c
  set_behind [] ys n k c e = let z : n + k ≡ k = omega (arith, e) in rw z refl
  set_behind (x ∷ xs) ys zero k c e = absurd (omega (arith, e))
  set_behind (x ∷ xs) ys (suc n) k c e =
      let z : suc n + k ≡ suc (n + k) = omega arith in rw z (ap (λ r. x ∷ r) (set_behind xs ys n k c (omega (arith, e))))

  set_before : (xs ys : List X) (k : ℕ) (c : X) → k < length xs → slice_set (xs ++ ys) k c ≡ slice_set xs k c ++ ys
  set_before [] ys k c h = absurd (omega (arith, h))
  set_before (x ∷ xs) ys zero c h = refl
  set_before (x ∷ xs) ys (suc k) c h = ap (λ r. x ∷ r) (set_before xs ys k c (omega (arith, h)))

empty_long : (X : Type 0) (n : ℕ) → length (empty_cells {X = X} n) ≡ n
empty_long X zero = refl
empty_long X (suc n) = ap suc (empty_long X n)

-- a page that is left out has as many cells as one that is there
pub none_long : (X : Type 0) → length (page_cells {X = X} None) ≡ 64
none_long X = empty_long X 64

module _ {X : Type 0} where
  pub whole_at : (ps : List (Option (List (Option X)))) (k : ℕ) (p : Option (List (Option X))) → AreWhole ps → slice_get ps k ≡ Some p
      → length (page_cells p) ≡ 64
  whole_at [] k p w h = absurd (cc)
  whole_at (q ∷ ps) zero p w h = subst (λ r. length (page_cells r) ≡ 64) (ap (λ o. unwrap_or o q) h) w.0
  whole_at (q ∷ ps) (suc k) p w h = whole_at ps k p w.1 h

  -- a cell of a page
  pub page_get : (ps : List (Option (List (Option X)))) (k i : ℕ) (p : Option (List (Option X))) → AreWhole ps → i < 64 → slice_get ps k ≡ Some p
      → slice_get (all_cells ps) (k * 64 + i) ≡ slice_get (page_cells p) i
  page_get [] k i p w h e = absurd (cc)
  page_get (q ∷ ps) zero i p w h e =
      let z : 0 * 64 + i ≡ i = omega arith in
      rw z (get_before (page_cells q) (all_cells ps) i (omega (arith, h, w.0)) ∙ ap (λ r. slice_get (page_cells r) i) (ap (λ o. unwrap_or o q) e))
  page_get (q ∷ ps) (suc k) i p w h e =
      let z : suc k * 64 + i ≡ 64 + (k * 64 + i) = omega arith in
      rw z (get_behind (page_cells q) (all_cells ps) 64 (k * 64 + i) w.0 ∙ page_get ps k i p w.1 h e)

  -- past the last page
  pub page_past : (ps : List (Option (List (Option X)))) (k i : ℕ) → AreWhole ps → length ps ≤ k → slice_get (all_cells ps) (k * 64 + i) ≡ None
  page_past [] k i w h = refl
  page_past (q ∷ ps) zero i w h = absurd (omega (arith, h))
  page_past (q ∷ ps) (suc k) i w h =
      let z : suc k * 64 + i ≡ 64 + (k * 64 + i) = omega arith in
      rw z (get_behind (page_cells q) (all_cells ps) 64 (k * 64 + i) w.0 ∙ page_past ps k i w.1 (omega (arith, h)))

  -- another cell of a page
  pub page_set : (ps : List (Option (List (Option X)))) (k i : ℕ) (p q : Option (List (Option X))) (c : Option X) → AreWhole ps → i < 64
      → slice_get ps k ≡ Some p → page_cells q ≡ slice_set (page_cells p) i c → slice_set (all_cells ps) (k * 64 + i) c ≡ all_cells (slice_set ps k q)
  page_set [] k i p q c w h e s = absurd (cc)
  page_set (r ∷ ps) zero i p q c w h e s =
      let z : 0 * 64 + i ≡ i = omega arith in
      let is : r ≡ p = ap (λ o. unwrap_or o r) e in
      rw z (set_before (page_cells r) (all_cells ps) i c (omega (arith, h, w.0)) ∙ ap (λ x. slice_set (page_cells x) i c ++ all_cells ps) is
      ∙ ap (λ x. x ++ all_cells ps) (sym s))
  page_set (r ∷ ps) (suc k) i p q c w h e s =
      let z : suc k * 64 + i ≡ 64 + (k * 64 + i) = omega arith in
      rw z (set_behind (page_cells r) (all_cells ps) 64 (k * 64 + i) c w.0 ∙ ap (λ x. page_cells r ++ x) (page_set ps k i p q c w.1 h e s))

  -- a page with the same cells
  pub page_same : (ps : List (Option (List (Option X)))) (k : ℕ) (p q : Option (List (Option X))) → slice_get ps k ≡ Some p → page_cells q ≡ page_cells p
      → all_cells (slice_set ps k q) ≡ all_cells ps
  page_same [] k p q e s = absurd (cc)
  page_same (r ∷ ps) zero p q e s = ap (λ x. x ++ all_cells ps) (s ∙ ap page_cells (sym (ap (λ o. unwrap_or o r) e)))
  page_same (r ∷ ps) (suc k) p q e s = ap (λ x. page_cells r ++ x) (page_same ps k p q e s)

  -- pages stay whole
  pub whole_set : (ps : List (Option (List (Option X)))) (k : ℕ) (q : Option (List (Option X))) → AreWhole ps → length (page_cells q) ≡ 64 → AreWhole (slice_set ps k q)
  whole_set [] k q w h = tt
  whole_set (r ∷ ps) zero q w h = (h, w.1)
  whole_set (r ∷ ps) (suc k) q w h = (w.0, whole_set ps k q w.1 h)

  pub whole_more : (ps : List (Option (List (Option X)))) → AreWhole ps → AreWhole (ps ++ None ∷ [])
  whole_more [] w = (none_long X, tt)
  whole_more (r ∷ ps) w = (w.0, whole_more ps w.1)

  empty_entries : (n k : ℕ) → entries {X = X} n (empty_cells k) ≡ []
  empty_entries n zero = refl
  empty_entries n (suc k) = empty_entries (n + 1) k

  entries_more : (n k : ℕ) (cells : List (Option X)) → entries n (cells ++ empty_cells k) ≡ entries n cells
  entries_more n k [] = empty_entries n k
  entries_more n k (None ∷ cells) = entries_more (n + 1) k cells
  entries_more n k (Some x ∷ cells) = ap (λ es. (n, x) ∷ es) (entries_more (n + 1) k cells)

  cells_more : (ps : List (Option (List (Option X)))) → all_cells (ps ++ None ∷ []) ≡ all_cells ps ++ empty_cells 64
  cells_more [] = no_more (empty_cells 64)
    where
      no_more : (xs : List (Option X)) → xs ++ [] ≡ xs
      no_more [] = refl
      no_more (x ∷ xs) = ap (λ r. x ∷ r) (no_more xs)
  cells_more (r ∷ ps) = ap (λ x. page_cells r ++ x) (cells_more ps) ∙ joined (page_cells r) (all_cells ps) (empty_cells 64)
    where
      joined : (xs ys zs : List (Option X)) → xs ++ (ys ++ zs) ≡ (xs ++ ys) ++ zs
      joined [] ys zs = refl
      joined (x ∷ xs) ys zs = ap (λ r. x ∷ r) (joined xs ys zs)

  -- a page that is left out adds no entry
  pub page_more : (ps : List (Option (List (Option X)))) → entries 0 (all_cells (ps ++ None ∷ [])) ≡ entries 0 (all_cells ps)
  page_more ps = ap (λ cells. entries 0 cells) (cells_more ps) ∙ entries_more 0 64 (all_cells ps)

  -- the cells of all pages
  pub cells_long : (ps : List (Option (List (Option X)))) → AreWhole ps → length (all_cells ps) ≡ 64 * length ps
  cells_long [] w = refl
  cells_long (r ∷ ps) w = let n = both_long (page_cells r) (all_cells ps) in let m = cells_long ps w.1 in omega (arith, n, m, w.0)
    where
      both_long : (xs ys : List (Option X)) → length (xs ++ ys) ≡ length xs + length ys
      both_long [] ys = omega arith
      both_long (x ∷ xs) ys = let n = both_long xs ys in omega (arith, n)

  none_in : (n : ℕ) (cells : List (Option X)) → length (entries n cells) ≡ 0 → cells ≡ empty_cells (length cells)
  none_in n [] h = refl
  none_in n (None ∷ cells) h = ap (λ r. None ∷ r) (none_in (n + 1) cells h)
  none_in n (Some x ∷ cells) h = absurd (omega (arith, h))

  -- a page in which no value is left
  pub is_empty : (cells : List (Option X)) → length cells ≡ 64 → length (entries 0 cells) ≡ 0 → cells ≡ page_cells None
  is_empty cells n h = none_in 0 cells h ∙ ap empty_cells n

  pub entries_both : (n : ℕ) (xs ys : List (Option X)) → entries n (xs ++ ys) ≡ entries n xs ++ entries (n + length xs) ys
  entries_both n [] ys = let z : n + 0 ≡ n = omega arith in rw z refl
  entries_both n (None ∷ xs) ys = let z : (n + 1) + length xs ≡ n + suc (length xs) = omega arith in rw z at (entries_both (n + 1) xs ys)
  entries_both n (Some x ∷ xs) ys =
      let z : (n + 1) + length xs ≡ n + suc (length xs) = omega arith in ap (λ es. (n, x) ∷ es) (rw z at (entries_both (n + 1) xs ys))

  pub one_less : (cells : List (Option X)) (n : ℕ) → 0 < n → (cells ++ None ∷ []) ++ empty_cells (n - 1) ≡ cells ++ empty_cells n
  one_less [] zero h = absurd (omega (arith, h))
  one_less [] (suc n) h = let z : suc n - 1 ≡ n = omega arith in rw z refl
  one_less (c ∷ cells) n h = ap (λ r. c ∷ r) (one_less cells n h)

  pub empty_set : (n k : ℕ) → slice_set (empty_cells {X = X} n) k None ≡ empty_cells n
  empty_set zero k = refl
  empty_set (suc n) zero = refl
  empty_set (suc n) (suc k) = ap (λ r. None ∷ r) (empty_set n k)

  empty_cell : (n i : ℕ) → cell_in (slice_get (empty_cells {X = X} n) i) ≡ None
  empty_cell zero i = refl
  empty_cell (suc n) zero = refl
  empty_cell (suc n) (suc i) = empty_cell n i

  pub no_value : (i : ℕ) → cell_in (slice_get (page_cells {X = X} None) i) ≡ None
  no_value i = empty_cell 64 i

  within_by : (ps : List (Option (List (Option X)))) (k i : ℕ) → AreWhole ps → is_some (cell_in (slice_get (all_cells ps) (k * 64 + i))) ≡ true → k < length ps
  within_by [] k i w h = absurd (cc)
  within_by (q ∷ ps) zero i w h = omega arith
  within_by (q ∷ ps) (suc k) i w h =
      let z : suc k * 64 + i ≡ 64 + (k * 64 + i) = omega arith in
      let n = within_by ps k i w.1 (ap (λ o. is_some (cell_in o)) (sym (get_behind (page_cells q) (all_cells ps) 64 (k * 64 + i) w.0)) ∙ rw z at h) in
      omega (arith, n)

module _ {X : Type 0} (ps : List (Option (List (Option X)))) (k i n : ℕ) (w : AreWhole ps) (h : i < 64) (z : n ≡ k * 64 + i) where
  -- what is found of a number
  pub paged : (p : Option (List (Option X))) → slice_get ps k ≡ Some p → lookup (is_at (nat_cmp n)) (entries 0 (all_cells ps)) ≡ cell_in (slice_get (page_cells p) i)
  paged p e = found n (all_cells ps) ∙ ap (λ m. cell_in (slice_get (all_cells ps) m)) z ∙ ap cell_in (page_get ps k i p w h e)

  pub unpaged : length ps ≤ k → lookup (is_at (nat_cmp n)) (entries 0 (all_cells ps)) ≡ None
  unpaged past = found n (all_cells ps) ∙ ap (λ m. cell_in (slice_get (all_cells ps) m)) z ∙ ap cell_in (page_past ps k i w past)

  -- the page of a number that is found
  pub page_there : is_some (lookup (is_at (nat_cmp n)) (entries 0 (all_cells ps))) ≡ true → k < length ps
  page_there s = within_by ps k i w (ap (λ m. is_some (cell_in (slice_get (all_cells ps) m))) (sym z) ∙ ap is_some (sym (found n (all_cells ps))) ∙ s)

  pub number_there : k < length ps → n < length (all_cells ps)
  number_there more = let l = cells_long ps w in omega (arith, l, more, h, z)

  module _ (p q : Option (List (Option X))) (e : slice_get ps k ≡ Some p) where
    -- with another cell
    pub with_cell : (c : Option X) → page_cells q ≡ slice_set (page_cells p) i c → all_cells (slice_set ps k q) ≡ slice_set (all_cells ps) n c
    with_cell c s = sym (ap (λ m. slice_set (all_cells ps) m c) z ∙ page_set ps k i p q c w h e s)

    pub whole_with : length (page_cells q) ≡ length (page_cells p) → AreWhole (slice_set ps k q)
    whole_with l = whole_set ps k q w (l ∙ whole_at ps k p w e)

module _ {X : Type 0} where
  keys_both : (xs ys : List (ℕ × X)) → keys_of (xs ++ ys) ≡ keys_of xs ++ keys_of ys
  keys_both [] ys = refl
  keys_both (x ∷ xs) ys = ap (λ r. x.0 ∷ r) (keys_both xs ys)

  pub whole_rest : (p : Option (List (Option X))) (ps rest : List (Option (List (Option X)))) → ps ≡ p ∷ rest → AreWhole ps → AreWhole rest
  whole_rest p ps rest e w = (subst AreWhole e w).1

  -- the numbers of one page more
  pub numbers_step : (found : List ℕ) (k : ℕ) (p : Option (List (Option X))) (ps rest : List (Option (List (Option X)))) → ps ≡ p ∷ rest → AreWhole ps
      → (found ++ keys_of (entries (k * 64) (page_cells p))) ++ keys_of (entries ((k + 1) * 64) (all_cells rest))
      ≡ found ++ keys_of (entries (k * 64) (all_cells ps))
  numbers_step found k p ps rest e w =
      let long = (subst AreWhole e w).0 in
      let z : (k + 1) * 64 ≡ k * 64 + length (page_cells p) = omega (arith, long) in
      three found (keys_of (entries (k * 64) (page_cells p))) (keys_of (entries ((k + 1) * 64) (all_cells rest)))
      ∙ ap (λ m. found ++ (keys_of (entries (k * 64) (page_cells p)) ++ keys_of (entries m (all_cells rest)))) z
      ∙ ap (λ r. found ++ r) (sym (keys_both (entries (k * 64) (page_cells p)) (entries (k * 64 + length (page_cells p)) (all_cells rest))))
      ∙ ap (λ es. found ++ keys_of es) (sym (entries_both (k * 64) (page_cells p) (all_cells rest)))
      ∙ ap (λ qs. found ++ keys_of (entries (k * 64) (all_cells qs))) (sym e)

  pub numbers_end : (found : List ℕ) (k : ℕ) (ps : List (Option (List (Option X)))) → length ps ≤ k → found ++ keys_of (entries (k * 64) (all_cells (drop k ps))) ≡ found
  numbers_end found k ps h = ap (λ qs. found ++ keys_of (entries (k * 64) (all_cells qs))) (drop_all ps k h) ∙ no_more found

  values_both : (xs ys : List (Option X)) → values_in (xs ++ ys) ≡ values_in xs ++ values_in ys
  values_both [] ys = refl
  values_both (None ∷ xs) ys = values_both xs ys
  values_both (Some x ∷ xs) ys = ap (λ l. x ∷ l) (values_both xs ys)

  all_three : (xs ys zs : List X) → (xs ++ ys) ++ zs ≡ xs ++ (ys ++ zs)
  all_three [] ys zs = refl
  all_three (x ∷ xs) ys zs = ap (λ l. x ∷ l) (all_three xs ys zs)

  pub values_step : (found : List X) (p : Option (List (Option X))) (ps rest : List (Option (List (Option X)))) → ps ≡ p ∷ rest
      → (found ++ values_in (page_cells p)) ++ values_in (all_cells rest) ≡ found ++ values_in (all_cells ps)
  values_step found p ps rest e =
      all_three found (values_in (page_cells p)) (values_in (all_cells rest))
      ∙ ap (λ l. found ++ l) (sym (values_both (page_cells p) (all_cells rest)))
      ∙ ap (λ qs. found ++ values_in (all_cells qs)) (sym e)

  nothing_more : (xs : List X) → xs ++ [] ≡ xs
  nothing_more [] = refl
  nothing_more (x ∷ xs) = ap (λ l. x ∷ l) (nothing_more xs)

  pub values_end : (found : List X) (k : ℕ) (ps : List (Option (List (Option X)))) → length ps ≤ k → found ++ values_in (all_cells (drop k ps)) ≡ found
  values_end found k ps h = ap (λ qs. found ++ values_in (all_cells qs)) (drop_all ps k h) ∙ nothing_more found

  -- the values of entries
  pub entry_values : (n : ℕ) (cells : List (Option X)) → values_in cells ≡ map (λ (e : ℕ × X). e.1) (entries n cells)
  entry_values n [] = refl
  entry_values n (None ∷ cells) = entry_values (n + 1) cells
  entry_values n (Some x ∷ cells) = ap (λ l. x ∷ l) (entry_values (n + 1) cells)

module _ {X : Type 0} (f : X → X) where
  -- a cell of a page that is left out
  pub none_changed : (i : ℕ) (c : Option X) → slice_get (page_cells None) i ≡ Some c → page_cells None ≡ slice_set (page_cells None) i (option_map f c)
  none_changed i c h = sym (empty_set 64 i) ∙ ap (λ d. slice_set (page_cells None) i d) (none_by c (ap cell_in (sym h) ∙ no_value i))
    where
      none_by : (c : Option X) → cell_in (Some c) ≡ None → None ≡ option_map f c
      none_by None h = refl
      none_by (Some x) h = absurd (cc)

  -- a changed cell has as many values
  pub changed_count : (i : ℕ) (cells : List (Option X)) (c : Option X) → slice_get cells i ≡ Some c
      → length (entries 0 (slice_set cells i (option_map f c))) ≡ length (entries 0 cells)
  changed_count i cells None h = ap (λ r. length (entries 0 r)) (none_there i cells (ap cell_in h))
  changed_count i cells (Some x) h = same i x (f x) cells (ap cell_in h)

  pub changed_long : (i : ℕ) (cells : List (Option X)) (c : Option X) → length (slice_set cells i c) ≡ length cells
  changed_long i cells c = set_len cells i c

  -- the entries with a changed cell
  pub changed_entries : (n : ℕ) (cells : List (Option X)) (c : Option X) → slice_get cells n ≡ Some c → entries 0 (slice_set cells n (option_map f c))
      ≡ option_map_or (λ x. set_value (is_at (nat_cmp n)) (entries 0 cells) (f x)) (lookup (is_at (nat_cmp n)) (entries 0 cells)) (entries 0 cells)
  changed_entries n cells None h =
      ap (λ r. entries 0 r) (none_there n cells (ap cell_in h))
      ∙ sym (ap (λ o. option_map_or (λ x. set_value (is_at (nat_cmp n)) (entries 0 cells) (f x)) o (entries 0 cells)) (found n cells ∙ ap cell_in h))
  changed_entries n cells (Some x) h =
      sym (changed n x (f x) cells (ap cell_in h))
      ∙ sym (ap (λ o. option_map_or (λ x. set_value (is_at (nat_cmp n)) (entries 0 cells) (f x)) o (entries 0 cells)) (found n cells ∙ ap cell_in h))

  -- where nothing is found, nothing changes
  pub unchanged : (n : ℕ) (es : List (ℕ × X)) → lookup (is_at (nat_cmp n)) es ≡ None
      → es ≡ option_map_or (λ x. set_value (is_at (nat_cmp n)) es (f x)) (lookup (is_at (nat_cmp n)) es) es
  unchanged n es h = sym (ap (λ o. option_map_or (λ x. set_value (is_at (nat_cmp n)) es (f x)) o es) h)
