-- Which classes each class inherits from, as a table of flags tells it.
use Rattle.std.proofs.Common.{◌≡◌, ℕ, zero, suc, ◌+◌, ◌<◌, ◌≤◌, Bool, true, false, ◌&&◌, ◌||◌, nat_eq, List, [], ◌∷◌, ◌++◌, length, map, get_or, filter, nat_cmp, Less, is_eq, refl, sym, ap, ap₂, ◌∙◌, subst, arith, true≢false, ⊎_elim, ◌≢◌, length-append}
use Rattle.std.specs.List.{AllByRecursion, flat_map, list_any, range_with_len}
use Rattle.std.specs.List.Sorted.{IsStrictlySortedBy}
use Rattle.std.specs.FinMap.{nat_cmp-IsAntisymmetric}
use Rattle.std.proofs.Math.Path.{fun_ext}
use Rattle.std.proofs.Math.Seq.{get_or-append_seam}
use Rattle.std.proofs.lemmas.Bool.{cases_lt}
use Rattle.std.proofs.lemmas.Bool.Decides.{eqb_tells, nat_tests}
use Rattle.std.proofs.lemmas.Cmp.{nat_cmp_total}
use Rattle.std.proofs.lemmas.List.{get_or_append_left}
use Rattle.std.proofs.lemmas.List.Folds.{list_any-append}
use Rattle.std.proofs.lemmas.List.FromFn.{get_or-map-range_with_len, length-map-range_with_len}
use Rattle.std.proofs.lemmas.List.Kept.{IsStrictlySortedBy-filter}
use Rattle.use_orders.specs.Canon.{has, set_of}
use Rattle.use_orders.proofs.Merged.{has-filter, is_set}
use Rattle.use_orders.proofs.Sets.{has-set_of}
use Rattle.class_rules.specs.Ancestors.{IsDownward, ancestors, upward}
use Rattle.class_rules.specs.Numbering.{is_among, row_at}
use Rattle.class_model.specs.Indexes.{IsTable, above, flag, flag_in}

eq_is : (x y : ℕ) → nat_eq x y ≡ is_eq (nat_cmp x y)
eq_is x y = grind (arith, nat_tests)

pub self_is : (x : ℕ) → nat_eq x x ≡ true
self_is x = grind (arith, nat_tests)

among_has : (xs : List ℕ) (z : ℕ) → is_among xs z ≡ has nat_cmp xs z
among_has xs z = ap (λ f. list_any f xs) (fun_ext (eq_is z))

all_from : {P Q : ℕ → Type 0} → ((x : ℕ) → P x → Q x) → (xs : List ℕ) → AllByRecursion P xs → AllByRecursion Q xs
all_from f [] h = tt
all_from f (x ∷ xs) h = (f x h.0, all_from f xs h.1)

flat_alike : {A B : Type 0} (f g : A → List B) (xs : List A) → AllByRecursion (λ x. f x ≡ g x) xs → flat_map f xs ≡ flat_map g xs
flat_alike f g [] h = refl
flat_alike f g (x ∷ xs) h = ap₂ (λ a b. a ++ b) h.0 (flat_alike f g xs h.1)

any_alike : {A : Type 0} (f g : A → Bool) (xs : List A) → AllByRecursion (λ x. f x ≡ g x) xs → list_any f xs ≡ list_any g xs
any_alike f g [] h = refl
any_alike f g (x ∷ xs) h = ap₂ (λ a b. a || b) h.0 (any_alike f g xs h.1)

any_flat : (f : ℕ → Bool) (g : ℕ → List ℕ) (xs : List ℕ) → list_any f (flat_map g xs) ≡ list_any (λ p. list_any f (g p)) xs
any_flat f g [] = refl
any_flat f g (x ∷ xs) = list_any-append f (g x) (flat_map g xs) ∙ ap (λ b. list_any f (g x) || b) (any_flat f g xs)

pub or_cases : {P : Type 0} (a b : Bool) → (a ≡ true → P) → (b ≡ true → P) → (a || b) ≡ true → P
or_cases true b f g h = f refl
or_cases false b f g h = g h

some_of : {P : ℕ → Type 0} {Q : Type 0} (f : ℕ → Bool) (xs : List ℕ) → AllByRecursion P xs → ((x : ℕ) → P x → f x ≡ true → Q) → list_any f xs ≡ true → Q
some_of f [] h g e = absurd (true≢false (sym e))
some_of f (x ∷ xs) h g e = or_cases (f x) (list_any f xs) (g x h.0) (some_of f xs h.1 g) e

or_true : (a b : Bool) → b ≡ true → (a || b) ≡ true
or_true true b e = refl
or_true false b e = e

or_left : (a b : Bool) → a ≡ true → (a || b) ≡ true
or_left true b e = refl
or_left false b e = absurd (true≢false (sym e))

any_more : (f g : ℕ → Bool) (xs : List ℕ) → AllByRecursion (λ x. f x ≡ true → g x ≡ true) xs → list_any f xs ≡ true → list_any g xs ≡ true
any_more f g [] h e = e
any_more f g (x ∷ xs) h e = or_cases (f x) (list_any f xs) (λ t. or_left (g x) (list_any g xs) (h.0 t))
    (λ t. or_true (g x) (list_any g xs) (any_more f g xs h.1 t)) e

past_row : (parents : List (List ℕ)) (c : ℕ) → length parents ≤ c → row_at parents c ≡ []
past_row [] c h = refl
past_row (r ∷ rs) zero h = absurd (omega arith)
past_row (r ∷ rs) (suc c) h = past_row rs c (omega arith)

pub row_of_map : {A : Type 0} (f : A → List ℕ) (xs : List A) (i : ℕ) (x : A) → i < length xs → x ≡ get_or xs i x → row_at (map f xs) i ≡ f x
row_of_map f [] i x h e = absurd (omega arith)
row_of_map f (y ∷ ys) zero x h e = ap f (sym e)
row_of_map f (y ∷ ys) (suc i) x h e = row_of_map f ys i x (omega arith) e

past_end : {A : Type 0} (xs : List A) (i : ℕ) (d : A) → length xs ≤ i → get_or xs i d ≡ d
past_end [] i d h = refl
past_end (x ∷ xs) zero d h = absurd (omega arith)
past_end (x ∷ xs) (suc i) d h = past_end xs i d (omega arith)

module _ (parents : List (List ℕ)) where
  abbrev inherits : ℕ → ℕ → Bool
  inherits c d = is_among (ancestors parents c) d

  among_upward : (c d : ℕ) → inherits c d ≡ list_any (nat_eq d) (upward parents (suc c) c)
  among_upward c d = among_has (ancestors parents c) d ∙ has-set_of nat_cmp_total (upward parents (suc c) c) d ∙ sym (among_has (upward parents (suc c) c) d)

  module _ (down : IsDownward parents) where
    upward_enough : (n m p : ℕ) → p < n → p < m → upward parents n p ≡ upward parents m p
    upward_enough zero m p h k = absurd (omega arith)
    upward_enough (suc n) zero p h k = absurd (omega arith)
    upward_enough (suc n) (suc m) p h k =
        ap (λ l. p ∷ l) (flat_alike (upward parents n) (upward parents m) (row_at parents p)
        (all_from (λ q low. upward_enough n m q (omega arith) (omega arith)) (row_at parents p) (down p)))

    -- a class is or inherits from another where it is that one, or a parent does
    pub inherits_step : (c d : ℕ) → inherits c d ≡ (nat_eq d c || list_any (λ p. inherits p d) (row_at parents c))
    inherits_step c d =
        among_upward c d
        ∙ ap (λ b. nat_eq d c || b)
        (any_flat (nat_eq d) (upward parents c) (row_at parents c)
        ∙ any_alike (λ p. list_any (nat_eq d) (upward parents c p)) (λ p. inherits p d) (row_at parents c)
        (all_from (λ p low. ap (list_any (nat_eq d)) (upward_enough c (suc p) p low (omega arith)) ∙ sym (among_upward p d)) (row_at parents c) (down c)))

    -- each class is itself
    pub inherits_self : (c : ℕ) → inherits c c ≡ true
    inherits_self c = inherits_step c c ∙ or_left (nat_eq c c) (list_any (λ p. inherits p c) (row_at parents c)) (self_is c)

    low_by : (n c d : ℕ) → c < n → inherits c d ≡ true → d ≤ c
    low_by zero c d h e = absurd (omega arith)
    low_by (suc n) c d h e =
        or_cases (nat_eq d c) (list_any (λ p. inherits p d) (row_at parents c))
        (λ t. let k : d ≡ c = grind (arith, nat_tests) in omega arith)
        (some_of (λ p. inherits p d) (row_at parents c) (down c) (λ p low q. let k = low_by n p d (omega arith) q in let l : p < c = low in omega arith))
        (sym (inherits_step c d) ∙ e)

    -- what a class inherits from has no greater number
    pub inherits_low : (c d : ℕ) → inherits c d ≡ true → d ≤ c
    inherits_low c d e = low_by (suc c) c d (omega arith) e

    trans_by : (n a b c : ℕ) → a < n → inherits a b ≡ true → inherits b c ≡ true → inherits a c ≡ true
    trans_by zero a b c h e f = absurd (omega arith)
    trans_by (suc n) a b c h e f =
        or_cases (nat_eq b a) (list_any (λ p. inherits p b) (row_at parents a))
        (λ t. let k : b ≡ a = grind (arith, nat_tests) in subst (λ x. inherits x c ≡ true) k f)
        (λ t. inherits_step a c ∙ or_true (nat_eq c a) (list_any (λ p. inherits p c) (row_at parents a))
        (any_more (λ p. inherits p b) (λ p. inherits p c) (row_at parents a)
        (all_from (λ p low q. trans_by n p b c (let l : p < a = low in omega arith) q f) (row_at parents a) (down a)) t))
        (sym (inherits_step a b) ∙ e)

    -- ancestors of ancestors are ancestors
    pub inherits_trans : (a b c : ℕ) → inherits a b ≡ true → inherits b c ≡ true → inherits a c ≡ true
    inherits_trans a b c e f = trans_by (suc a) a b c (omega arith) e f

    range_high : (a n : ℕ) (x : ℕ) → x < a → AllByRecursion (λ y. nat_cmp x y ≡ Less) (range_with_len a n)
    range_high a zero x h = tt
    range_high a (suc n) x h = (grind (arith, nat_tests), range_high (a + 1) n x (omega arith))

    range_up : (a n : ℕ) → IsStrictlySortedBy nat_cmp (range_with_len a n)
    unfolding IsStrictlySortedBy
    range_up a zero = tt
    range_up a (suc n) = (range_high (a + 1) n a (omega arith), range_up (a + 1) n)

    in_range : (a n z : ℕ) → a ≤ z → z < a + n → has nat_cmp (range_with_len a n) z ≡ true
    in_range a zero z h k = absurd (omega arith)
    in_range a (suc n) z h k =
        ⊎_elim
        (λ t. or_left (is_eq (nat_cmp z a)) (has nat_cmp (range_with_len (a + 1) n) z) (sym (eq_is z a) ∙ t.0))
        (λ t. or_true (is_eq (nat_cmp z a)) (has nat_cmp (range_with_len (a + 1) n) z)
        (in_range (a + 1) n z (let e : z ≢ a = t.1 in omega arith) (omega arith)))
        (eqb_tells z a)

    both : (a b : Bool) → (a ≡ true → b ≡ true) → (a && b) ≡ a
    both true b h = h refl
    both false b h = refl

    -- the classes that a class is or inherits from, in a row
    pub classes_are : (c n : ℕ) → c < n → filter (inherits c) (range_with_len 0 n) ≡ ancestors parents c
    classes_are c n h =
        is_set nat_cmp_total nat_cmp-IsAntisymmetric (filter (inherits c) (range_with_len 0 n)) (upward parents (suc c) c)
        (IsStrictlySortedBy-filter nat_cmp (inherits c) (range_with_len 0 n) (range_up 0 n))
        (λ z.
        has-filter nat_cmp_total (inherits c) (λ x y e. ap (inherits c) (nat_cmp-IsAntisymmetric x y e)) (range_with_len 0 n) z
        ∙ both (inherits c z) (has nat_cmp (range_with_len 0 n) z) (λ e. in_range 0 n z (omega arith) (let k = inherits_low c z e in omega arith))
        ∙ among_upward c z ∙ among_has (upward parents (suc c) c) z)

    -- the table tells what the first classes inherit from
    pub record IsTableTo (table : List (List Bool)) (i : ℕ) : Type 0 where
      pub size : length table ≡ i
      pub same : (c d : ℕ) → c < i → above table c d ≡ inherits c d

    pub no_rows : IsTableTo [] 0
    no_rows = record { size = refl; same = λ c d h. absurd (omega arith) }

    abbrev next : List (List Bool) → List ℕ → ℕ → ℕ → Bool
    next table row i d = nat_eq d i || list_any (λ p. above table p d) row

    next_is : (table : List (List Bool)) (i d : ℕ) → IsTableTo table i → next table (row_at parents i) i d ≡ inherits i d
    next_is table i d so_far =
        ap (λ b. nat_eq d i || b)
        (any_alike (λ p. above table p d) (λ p. inherits p d) (row_at parents i) (all_from (λ p low. so_far.same p d low) (row_at parents i) (down i)))
        ∙ sym (inherits_step i d)

    or_again : (a b : Bool) → (a || (a || b)) ≡ (a || b)
    or_again true b = refl
    or_again false b = refl

    not_both : (a : Bool) (d i : ℕ) → i < d → (a ≡ true → d ≤ i) → (nat_eq d i || false) ≡ a
    not_both true d i h k = let l = k refl in absurd (omega arith)
    not_both false d i h k = grind (arith, nat_tests)

    last_is : (table : List (List Bool)) (i n d : ℕ) → IsTableTo table i → i < n →
        (nat_eq d i || flag_in (map (next table (row_at parents i) i) (range_with_len 0 n)) d) ≡ inherits i d
    last_is table i n d so_far h =
        let f : ℕ → Bool = next table (row_at parents i) i in
        ⊎_elim
        (λ low. ap (λ b. nat_eq d i || b) (get_or-map-range_with_len f 0 n d d false low (omega arith))
        ∙ or_again (nat_eq d i) (list_any (λ p. above table p d) (row_at parents i)) ∙ next_is table i d so_far)
        (λ high. ap (λ b. nat_eq d i || b) (past_end (map f (range_with_len 0 n)) d false (let l = length-map-range_with_len f 0 n in omega arith))
        ∙ not_both (inherits i d) d i (omega arith) (inherits_low i d))
        (cases_lt d n)

    pub one_row : (table : List (List Bool)) (i n : ℕ) (row : List ℕ) → IsTableTo table i → i < n → row ≡ row_at parents i →
        IsTableTo (table ++ map (next table row i) (range_with_len 0 n) ∷ []) (i + 1)
    one_row table i n row so_far h e = record {
      size = let s = so_far.size in let l = length-append table (map (next table row i) (range_with_len 0 n) ∷ []) in omega arith;
      same = λ c d k.
          let new = map (next table row i) (range_with_len 0 n) in
          let s = so_far.size in
          ⊎_elim
          (λ low. ap (λ r. nat_eq d c || flag_in r d) (get_or_append_left table (new ∷ []) [] c (omega arith)) ∙ so_far.same c d low)
          (λ high.
          let at : c ≡ i = omega arith in
          let end : i ≡ length table = omega arith in
          ap (λ j. nat_eq d j || flag_in (get_or (table ++ new ∷ []) j []) d) at
          ∙ ap (λ r. nat_eq d i || flag_in r d) (ap (λ j. get_or (table ++ new ∷ []) j []) end ∙ get_or-append_seam table new [] [])
          ∙ ap (λ r. nat_eq d i || flag_in (map (next table r i) (range_with_len 0 n)) d) e
          ∙ last_is table i n d so_far h
          ∙ ap (λ j. inherits j d) (sym at))
          (cases_lt c i);
    }

    -- all classes have their rows
    pub all_rows : (table : List (List Bool)) (i : ℕ) → IsTableTo table i → length parents ≤ i → IsTable parents table
    all_rows table i so_far h c d =
        let s = so_far.size in
        ⊎_elim
        (λ low. so_far.same c d low)
        (λ high.
        ap (λ r. nat_eq d c || flag_in r d) (past_end table c [] (omega arith))
        ∙ sym (inherits_step c d ∙ ap (λ r. nat_eq d c || list_any (λ p. inherits p d) r) (past_row parents c (omega arith))))
        (cases_lt c i)

not_here : (a b : Bool) → (a ≡ true → ⊥) → b ≡ false → (a || b) ≡ false
not_here true b h e = absurd (h refl)
not_here false b h e = e

none_any : (f : ℕ → Bool) (xs : List ℕ) → AllByRecursion (λ x. f x ≡ true → ⊥) xs → list_any f xs ≡ false
none_any f [] h = refl
none_any f (x ∷ xs) h = not_here (f x) (list_any f xs) h.0 (none_any f xs h.1)

or_false : (a : Bool) → (a || false) ≡ a
or_false true = refl
or_false false = refl

module _ (parents : List (List ℕ)) (down : IsDownward parents) (a : ℕ) (out : length parents ≤ a) where
  -- a class that is not there has no ancestors, and no other class inherits from it
  pub alone : ancestors parents a ≡ a ∷ []
  alone = ap (λ r. set_of nat_cmp (a ∷ flat_map (upward parents a) r)) (past_row parents a out)

  pub alone_is : (b : ℕ) → is_among (ancestors parents b) a ≡ nat_eq a b
  alone_is b =
      inherits_step parents down b a
      ∙ ap (λ x. nat_eq a b || x)
      (⊎_elim
      (λ low. none_any (λ p. is_among (ancestors parents p) a) (row_at parents b)
      (all_from (λ p less e. let k = inherits_low parents down p a e in let l : p < b = less in absurd (omega arith)) (row_at parents b) (down b)))
      (λ high. ap (list_any (λ p. is_among (ancestors parents p) a)) (past_row parents b high))
      (cases_lt b (length parents)))
      ∙ or_false (nat_eq a b)
