-- Which classes may get the next number, as the numbering keeps it.
use Rattle.std.proofs.Common.{◌≡◌, inl, inr, ◌++◌, ℕ, zero, suc, ◌<◌, ◌≤◌, Bool, true, false, not, ◌&&◌, ◌||◌, nat_eq, List, [], ◌∷◌, length, get_or, take, replicate, Option, Some, None, refl, sym, ap, ap₂, ◌∙◌, arith, true≢false, ⊎_elim}
use Rattle.std.specs.Prelude.{slice_set}
use Rattle.std.specs.List.{list_all}
use Rattle.std.proofs.lemmas.Bool.{cases_Bool}
use Rattle.std.proofs.lemmas.Bool.Decides.{eqb_tells}
use Rattle.std.proofs.lemmas.List.{get_or-set_other, get_or-set_same, length-replicate, length-set}
use Rattle.std.proofs.lemmas.List.Folds.{list_any-append}
use Rattle.class_decls.proofs.Numbered.{all_taken}
use Rattle.class_rules.specs.Numbering.{is_among, least_below, may_follow_flags, row_at}
use Rattle.class_rules.specs.Queue.{IsQueued, has_number}
use Rattle.class_rules.specs.Ready.{ReadyPlaces, is_ready}
use Rattle.class_rules.proofs.Least.{least_found, least_none}

pub or_left : (a b : Bool) → a ≡ true → (a || b) ≡ true
or_left true b h = refl
or_left false b h = absurd (true≢false (sym h))

pub or_right : (a b : Bool) → b ≡ true → (a || b) ≡ true
or_right true b h = refl
or_right false b h = h

pub itself : (x : ℕ) → nat_eq x x ≡ true
itself x = ⊎_elim (λ t. t.0) (λ t. absurd (t.1 refl)) (eqb_tells x x)

-- a place without a number is one of those that are considered
pub within : (done : List Bool) (i : ℕ) → has_number done i ≡ false → i < length done
within [] i h = absurd (true≢false h)
within (d ∷ ds) zero h = omega arith
within (d ∷ ds) (suc i) h = let low = within ds i h in omega arith

and_false : (c : Bool) → (c && false) ≡ false
and_false true = refl
and_false false = refl

stay : (a b c d : Bool) → (a && b) ≡ true → (a ≡ true → c ≡ true) → (b ≡ true → d ≡ true) → (c && d) ≡ true
stay true b c d e h k = ap₂ (λ p q. p && q) (h refl) (k e)
stay false b c d e h k = absurd (true≢false (sym e))

-- one of some fails
open_by : (f : ℕ → Bool) (x p : ℕ) (a b : Bool) → (nat_eq p x || a) ≡ true → f p ≡ false → (a ≡ true → b ≡ false) → (f x && b) ≡ false
open_by f x p a b h e rest =
    ⊎_elim
    (λ t. ap (λ c. c && b) (ap f (sym t.1) ∙ e))
    (λ t. ap (λ c. f x && c) (rest (sym (ap (λ c. c || a) t.0) ∙ h)) ∙ and_false (f x))
    (eqb_tells p x)

one_open : (f : ℕ → Bool) (xs : List ℕ) (p : ℕ) → is_among xs p ≡ true → f p ≡ false → list_all f xs ≡ false
one_open f [] p h e = absurd (true≢false (sym h))
one_open f (x ∷ xs) p h e = open_by f x p (is_among xs p) (list_all f xs) h e (λ k. one_open f xs p k e)

-- what has a number keeps it
all_stay : (f g : ℕ → Bool) → ((p : ℕ) → f p ≡ true → g p ≡ true) → (xs : List ℕ) → list_all f xs ≡ true → list_all g xs ≡ true
all_stay f g h [] e = refl
all_stay f g h (x ∷ xs) e = stay (f x) (list_all f xs) (g x) (list_all g xs) e (h x) (all_stay f g h xs)

pub left_by : (a b : Bool) → (a || b) ≡ true → a ≡ false → b ≡ true
left_by true b h e = absurd (true≢false e)
left_by false b h e = h

past_end : {A : Type 0} (xs : List A) (i : ℕ) (d : A) → length xs ≤ i → get_or xs i d ≡ d
past_end [] i d h = refl
past_end (x ∷ xs) zero d h = absurd (omega arith)
past_end (x ∷ xs) (suc i) d h = past_end xs i d (omega arith)

-- a class that is not ready to be looked at may not follow
pub may_not : (parents : List (List ℕ)) (done : List Bool) (passed : List ℕ) (waiting : List (List ℕ)) (ready : ReadyPlaces) →
    IsQueued parents done passed waiting ready → (i : ℕ) → is_ready ready i ≡ false → may_follow_flags parents done i ≡ false
may_not parents done passed waiting ready q i h =
    ⊎_elim
    (λ e. ap (λ b. not b && list_all (has_number done) (row_at parents i)) e)
    (λ e.
    ap (λ b. not b && list_all (has_number done) (row_at parents i)) e
    ∙ ⊎_elim
    (λ r. absurd (true≢false (sym r ∙ h)))
    (λ w. one_open (has_number done) (row_at parents i) w.parent w.parented w.unnumbered)
    (q.each i e))
    (cases_Bool (has_number done i))

-- what is ready apart from one place stays ready
others_ready : (ready rest : ReadyPlaces) (k i : ℕ) → ((j : ℕ) → is_ready ready j ≡ (nat_eq j k || is_ready rest j)) → nat_eq i k ≡ false → is_ready ready i ≡ true → is_ready rest i ≡ true
others_ready ready rest k i kept other r = left_by (nat_eq i k) (is_ready rest i) (sym (kept i) ∙ r) other

-- the first of those that are ready has a number, and is passed over
pub passed_over : (parents : List (List ℕ)) (done : List Bool) (passed : List ℕ) (waiting : List (List ℕ)) (k : ℕ) (ready rest : ReadyPlaces) →
    IsQueued parents done passed waiting ready →
    ((i : ℕ) → is_ready ready i ≡ (nat_eq i k || is_ready rest i)) →
    has_number done k ≡ true → IsQueued parents done passed waiting rest
passed_over parents done passed waiting k ready rest q kept h = record {
  flags = q.flags;
  counts = q.counts;
  lists = q.lists;
  each = λ i e.
      ⊎_elim
      (λ r. inl (others_ready ready rest k i kept
      (⊎_elim (λ t. absurd (true≢false (sym h ∙ ap (has_number done) (sym t.1) ∙ e))) (λ t. t.0) (eqb_tells i k))
      r))
      (λ w. inr w)
      (q.each i e);
  numbered = q.numbered;
}

-- the first of those that are ready waits for a parent from now on
pub parked : (parents : List (List ℕ)) (done : List Bool) (passed : List ℕ) (waiting more : List (List ℕ)) (k : ℕ) (ready rest : ReadyPlaces) (next parent : ℕ) →
    IsQueued parents done passed waiting ready →
    ((i : ℕ) → is_ready ready i ≡ (nat_eq i k || is_ready rest i)) →
    k < length parents →
    list_all (has_number done) (take next (row_at parents k)) ≡ true →
    has_number done parent ≡ false → is_among (row_at parents k) parent ≡ true →
    length more ≡ length waiting → is_among (row_at more parent) k ≡ true →
    ((p i : ℕ) → is_among (row_at waiting p) i ≡ true → is_among (row_at more p) i ≡ true) →
    IsQueued parents done (slice_set passed k next) more rest
parked parents done passed waiting more k ready rest next parent q keeps low numbered bare parented size listed kept = record {
  flags = q.flags;
  counts = length-set passed k next ∙ q.counts;
  lists = size ∙ q.lists;
  each = λ i e.
      ⊎_elim
      (λ t. inr (record {
        parent = parent;
        unnumbered = bare;
        parented = ap (λ j. is_among (row_at parents j) parent) t.1 ∙ parented;
        listed = ap (is_among (row_at more parent)) t.1 ∙ listed;
      }))
      (λ t. ⊎_elim
      (λ r. inl (others_ready ready rest k i keeps t.0 r))
      (λ w. inr (record { parent = w.parent; unnumbered = w.unnumbered; parented = w.parented; listed = kept w.parent i w.listed }))
      (q.each i e))
      (eqb_tells i k);
  numbered = λ i.
      ⊎_elim
      (λ t.
      let here = get_or-set_same passed k next 0 (let s = q.counts in omega arith) in
      ap (λ j. list_all (has_number done) (take (get_or (slice_set passed k next) j 0) (row_at parents j))) t.1
      ∙ ap (λ n. list_all (has_number done) (take n (row_at parents k))) here ∙ numbered)
      (λ t. ap (λ n. list_all (has_number done) (take n (row_at parents i))) (get_or-set_other passed k i next 0 t.1) ∙ q.numbered i)
      (eqb_tells i k);
}

flag_stays : (done : List Bool) (k p : ℕ) → k < length done → has_number done p ≡ true → has_number (slice_set done k true) p ≡ true
flag_stays done k p low h =
    ⊎_elim
    (λ t. ap (has_number (slice_set done k true)) t.1 ∙ get_or-set_same done k true true low)
    (λ t. get_or-set_other done k p true true t.1 ∙ h)
    (eqb_tells p k)

flag_was : (done : List Bool) (k p : ℕ) → k < length done → has_number (slice_set done k true) p ≡ false → (has_number done p ≡ false) × (nat_eq p k ≡ false)
flag_was done k p low h =
    ⊎_elim
    (λ t. absurd (true≢false (sym (ap (has_number (slice_set done k true)) t.1 ∙ get_or-set_same done k true true low) ∙ h)))
    (λ t. (sym (get_or-set_other done k p true true t.1) ∙ h, t.0))
    (eqb_tells p k)

-- a class got its number, and those that waited for it are ready to be looked at
pub advanced : (parents : List (List ℕ)) (done : List Bool) (passed : List ℕ) (waiting : List (List ℕ)) (ready more : ReadyPlaces) (k : ℕ) →
    IsQueued parents done passed waiting ready → k < length done →
    ((i : ℕ) → is_ready more i ≡ (is_ready ready i || is_among (row_at waiting k) i)) →
    IsQueued parents (slice_set done k true) passed waiting more
advanced parents done passed waiting ready more k q low released = record {
  flags = length-set done k true ∙ q.flags;
  counts = q.counts;
  lists = q.lists;
  each = λ i e.
      let was = flag_was done k i low e in
      ⊎_elim
      (λ r. inl (released i ∙ or_left (is_ready ready i) (is_among (row_at waiting k) i) r))
      (λ w. ⊎_elim
      (λ t. inl (released i ∙ or_right (is_ready ready i) (is_among (row_at waiting k) i) (ap (λ p. is_among (row_at waiting p) i) (sym t.1) ∙ w.listed)))
      (λ t. inr (record {
        parent = w.parent;
        unnumbered = get_or-set_other done k w.parent true true t.1 ∙ w.unnumbered;
        parented = w.parented;
        listed = w.listed;
      }))
      (eqb_tells w.parent k))
      (q.each i was.0);
  numbered = λ i. all_stay (has_number done) (has_number (slice_set done k true)) (λ p h. flag_stays done k p low h) (take (get_or passed i 0)
      (row_at parents i))
      (q.numbered i);
}

no_count : (n i : ℕ) → ◌≡◌ {A = ℕ} (get_or (replicate n 0) i 0) 0
no_count zero i = refl
no_count (suc n) zero = refl
no_count (suc n) (suc i) = no_count n i

-- all are ready to be looked at
pub all_ready : (parents : List (List ℕ)) (waiting : List (List ℕ)) (ready : ReadyPlaces) →
    length waiting ≡ length parents → ((i : ℕ) → is_ready ready i ≡ true) →
    IsQueued parents (replicate (length parents) false) (replicate (length parents) 0) waiting ready
all_ready parents waiting ready size all = record {
  flags = length-replicate (length parents) false;
  counts = length-replicate (length parents) 0;
  lists = size;
  each = λ i e. inl (all i);
  numbered = λ i. ap (λ n. list_all (has_number (replicate (length parents) false)) (take n (row_at parents i))) (no_count (length parents) i);
}

-- an entry of a list of lists
row_is : (rows : List (List ℕ)) (i : ℕ) → row_at rows i ≡ get_or rows i []
row_is [] i = refl
row_is (r ∷ rs) zero = refl
row_is (r ∷ rs) (suc i) = row_is rs i

among_last : (xs : List ℕ) (i : ℕ) → is_among (xs ++ i ∷ []) i ≡ true
among_last xs i = list_any-append (nat_eq i) xs (i ∷ []) ∙ or_right (is_among xs i) (nat_eq i i || false) (or_left (nat_eq i i) false (itself i))

among_more : (xs ys : List ℕ) (j : ℕ) → is_among xs j ≡ true → is_among (xs ++ ys) j ≡ true
among_more xs ys j h = list_any-append (nat_eq j) xs ys ∙ or_left (is_among xs j) (is_among ys j) h

module _ (lists : List (List ℕ)) (parent i : ℕ) (row : List ℕ) (low : parent < length lists) (more : row ≡ get_or lists parent [] ++ i ∷ []) where
  here : row_at (slice_set lists parent row) parent ≡ row
  here = row_is (slice_set lists parent row) parent ∙ get_or-set_same lists parent row [] low

  -- one more is listed
  pub now_listed : is_among (row_at (slice_set lists parent row) parent) i ≡ true
  now_listed = ap (λ l. is_among l i) (here ∙ more) ∙ among_last (get_or lists parent []) i

  pub still_listed : (p j : ℕ) → is_among (row_at lists p) j ≡ true → is_among (row_at (slice_set lists parent row) p) j ≡ true
  still_listed p j h =
      ⊎_elim
      (λ t.
      ap (λ q. is_among (row_at (slice_set lists parent row) q) j) t.1 ∙ ap (λ l. is_among l j) (here ∙ more)
      ∙ among_more (get_or lists parent []) (i ∷ []) j (ap (λ l. is_among l j) (sym (ap (row_at lists) t.1 ∙ row_is lists parent)) ∙ h))
      (λ t. ap (λ l. is_among l j) (row_is (slice_set lists parent row) p ∙ get_or-set_other lists parent p row [] t.1 ∙ sym (row_is lists p)) ∙ h)
      (eqb_tells p parent)

-- where the least that is ready stands above a place, that place is not ready
none_above : (ready : ReadyPlaces) (k i : ℕ) → ((j : ℕ) → is_ready ready j ≡ true → k ≤ j) → i < k → is_ready ready i ≡ false
none_above ready k i least low = ⊎_elim (λ e. let h : k ≤ i = least i e in absurd (omega arith)) (λ e. e) (cases_Bool (is_ready ready i))

module _ (parents : List (List ℕ)) (done : List Bool) (passed : List ℕ) (waiting : List (List ℕ)) (ready : ReadyPlaces)
    (q : IsQueued parents done passed waiting ready) where
  none_before : (k : ℕ) → ((j : ℕ) → is_ready ready j ≡ true → k ≤ j) → (i : ℕ) → i < k → may_follow_flags parents done i ≡ false
  none_before k least i low = may_not parents done passed waiting ready q i (none_above ready k i least low)

  -- the first that is ready and waits for no parent gets the next number
  pub next_found : (k next : ℕ) → ((j : ℕ) → is_ready ready j ≡ true → k ≤ j) → has_number done k ≡ false →
      list_all (has_number done) (take next (row_at parents k)) ≡ true → length (row_at parents k) ≤ next →
      ◌≡◌ {A = Option ℕ} (Some k) (least_below (may_follow_flags parents done) (length parents))
  next_found k next least bare numbered all =
      sym (least_found (may_follow_flags parents done) (length parents) k
      (least_none (may_follow_flags parents done) k (none_before k least))
      (ap₂ (λ a b. not a && b) bare (sym (ap (list_all (has_number done)) (all_taken (row_at parents k) next all)) ∙ numbered))
      (let size = q.flags in let low = within done k bare in omega arith))

  -- none of the classes is left
  pub none_left : (k : ℕ) → ((j : ℕ) → is_ready ready j ≡ true → k ≤ j) → length parents ≤ k →
      ◌≡◌ {A = Option ℕ} None (least_below (may_follow_flags parents done) (length parents))
  none_left k least past = sym (least_none (may_follow_flags parents done) (length parents) (λ i low. none_before k least i (omega arith)))

pub among_at : (xs : List ℕ) (n : ℕ) → n < length xs → is_among xs (get_or xs n 0) ≡ true
among_at [] n h = absurd (omega arith)
among_at (x ∷ xs) zero h = or_left (nat_eq x x) (is_among xs x) (itself x)
among_at (x ∷ xs) (suc n) h = or_right (nat_eq (get_or xs n 0) x) (is_among xs (get_or xs n 0)) (among_at xs n (omega arith))
