-- Which places are to be looked at.
use Rattle.std.proofs.Common.{◌≡◌, ℕ, suc, ◌<◌, ◌≤◌, Bool, true, false, not, ◌||◌, nat_cmp, nat_eq, nat_lt, List, [], ◌∷◌, Ordering, Less, Equal, Greater, Option, Some, None, IfNone, IfSome, OnErr, OnOk, Result, Ok, Err, refl, sym, ap, ap₂, ◌∙◌, arith, true≢false, ⊎_elim}
use Rattle.std.specs.Prelude.{slice_get}
use Rattle.std.specs.List.{AllByRecursion, list_any}
use Rattle.std.specs.BTreeSet.{insert_key}
use Rattle.std.specs.Cmp.{unsigned_ties}
use Rattle.std.specs.Ordering.{is_eq, is_gt}
use Rattle.std.proofs.lemmas.Bool.{cases_Bool}
use Rattle.std.proofs.lemmas.Bool.Decides.{eqb_tells, leb_tells}
use Rattle.std.proofs.lemmas.Cmp.{nat_cmp_total, ranked}
use Rattle.use_orders.proofs.Sets.{has-insert_new}
use Rattle.class_rules.specs.Numbering.{is_among}
use Rattle.class_rules.proofs.LeastAbove.{among_has}
use Rattle.class_rules.proofs.Queued.{itself, left_by, or_left, or_right}
use Rattle.class_rules.proofs.Upward.{insert_same}

or_comm : (a b : Bool) → (a || b) ≡ (b || a)
or_comm true true = refl
or_comm true false = refl
or_comm false true = refl
or_comm false false = refl

right_by : (a b : Bool) → (a || b) ≡ true → b ≡ false → a ≡ true
right_by true b h e = refl
right_by false b h e = absurd (true≢false (sym h ∙ e))

not_before : (i n : ℕ) → not (nat_lt i n) ≡ true → n ≤ i
not_before i n h = ⊎_elim (λ t. absurd (true≢false (sym h ∙ ap not t.0))) (λ t. let k : n < suc i = t.1 in omega arith) (leb_tells (suc i) n)

-- one key more
among_insert : (ks : List ℕ) (k z : ℕ) → is_among (insert_key nat_cmp ks k) z ≡ (is_among ks z || nat_eq z k)
among_insert ks k z =
    among_has (insert_key nat_cmp ks k) z ∙ ap (λ l. list_any (λ y. is_eq (nat_cmp z y)) l) (insert_same ks k)
    ∙ has-insert_new nat_cmp_total ks k z
    ∙ ap₂ (λ a b. a || b) (sym (unsigned_ties z k)) (sym (among_has ks z))
    ∙ or_comm (nat_eq z k) (is_among ks z)

-- a place that is added stands before another, as the others do
pub before_added : {T E : Type 0} (r : Result T E) (ks more : List ℕ) (k n : ℕ) → OnOk r (more ≡ insert_key nat_cmp ks k) → OnErr r (more ≡ ks) → k < n
    → ((j : ℕ) → is_among ks j ≡ true → j < n) → (i : ℕ) → is_among more i ≡ true → i < n
before_added (Ok v) ks more k n e f low before i h =
    ⊎_elim
    (λ t. let same : i ≡ k = t.1 in omega arith)
    (λ t. before i (right_by (is_among ks i) (nat_eq i k) (sym (ap (λ l. is_among l i) e ∙ among_insert ks k i) ∙ h) t.0))
    (eqb_tells i k)
before_added (Err v) ks more k n e f low before i h = before i (sym (ap (λ l. is_among l i) f) ∙ h)

-- the others stand before it where the first was taken away
pub before_rest : (o : Option ℕ) (ks rest : List ℕ) (n : ℕ) → IfSome o (λ k. ks ≡ k ∷ rest) → IfNone o (rest ≡ ks)
    → ((j : ℕ) → is_among ks j ≡ true → j < n) → (i : ℕ) → is_among rest i ≡ true → i < n
before_rest None ks rest n e f before i h = before i (ap (λ l. is_among l i) (sym f) ∙ h)
before_rest (Some k) ks rest n e f before i h = before i (ap (λ l. is_among l i) e ∙ or_right (nat_eq i k) (is_among rest i) h)

last_two : (a b c : Bool) → ((a || b) || c) ≡ ((a || c) || b)
last_two true b c = refl
last_two false true true = refl
last_two false true false = refl
last_two false false true = refl
last_two false false false = refl

-- one place more is ready
pub one_ready : (ks more : List ℕ) (k i : ℕ) (b : Bool) → more ≡ insert_key nat_cmp ks k → (is_among more i || b) ≡ ((is_among ks i || b) || nat_eq i k)
one_ready ks more k i b e =
    ap (λ l. is_among l i || b) e ∙ ap (λ a. a || b) (among_insert ks k i) ∙ last_two (is_among ks i) (nat_eq i k) b

not_above_by : (a b : ℕ) (o : Ordering) → nat_cmp a b ≡ o → is_gt o ≡ false → a ≤ b
not_above_by a b Less e h = let low = ranked a b Less (sym e) in omega arith
not_above_by a b Equal e h = let same = ranked a b Equal (sym e) in omega arith
not_above_by a b Greater e h = absurd (true≢false h)

not_above : (a b : ℕ) → is_gt (nat_cmp a b) ≡ false → a ≤ b
not_above a b h = not_above_by a b (nat_cmp a b) refl h

least_by : (k x i : ℕ) (a : Bool) → is_gt (nat_cmp k x) ≡ false → (nat_eq i x || a) ≡ true → (a ≡ true → k ≤ i) → k ≤ i
least_by k x i a up h f = ⊎_elim (λ t. let e : i ≡ x = t.1 in let low : k ≤ x = not_above k x up in omega arith) (λ t. f (sym (ap (λ b. b || a) t.0) ∙ h))
    (eqb_tells i x)

-- the first of some keys is the least
least_first : (k : ℕ) (ks : List ℕ) → AllByRecursion (λ q. is_gt (nat_cmp k q) ≡ false) ks → (i : ℕ) → is_among ks i ≡ true → k ≤ i
least_first k [] up i h = absurd (true≢false (sym h))
least_first k (x ∷ xs) up i h = least_by k x i (is_among xs i) up.0 h (least_first k xs up.1 i)

first_among : (ks : List ℕ) (k : ℕ) → ◌≡◌ {A = Option ℕ} (slice_get ks 0) (Some k) → is_among ks k ≡ true
first_among [] k e = cc
first_among (x ∷ xs) k e = let h : k ≡ x = cc in ap (λ j. is_among (x ∷ xs) j) h ∙ or_left (nat_eq x x) (is_among xs x) (itself x)

-- the first of those that are looked at again is the least of all
pub least_ready : (k n : ℕ) (ks : List ℕ) → AllByRecursion (λ q. is_gt (nat_cmp k q) ≡ false) ks → ◌≡◌ {A = Option ℕ} (slice_get ks 0) (Some k)
    → ((j : ℕ) → is_among ks j ≡ true → j < n) → (i : ℕ) → (is_among ks i || not (nat_lt i n)) ≡ true → k ≤ i
least_ready k n ks up e before i h =
    ⊎_elim
    (λ t. least_first k ks up i t)
    (λ f.
    let late = not_before i n (left_by (is_among ks i) (not (nat_lt i n)) h f) in
    let low = before k (first_among ks k e) in
    omega arith)
    (cases_Bool (is_among ks i))
