-- Classes without a number, and cycles.
use Rattle.std.proofs.Common.{◌≡◌, ℕ, zero, suc, ◌+◌, ◌<◌, ◌≤◌, Bool, true, false, not, ◌&&◌, ◌||◌, cond, nat_eq, nat_lt, List, [], ◌∷◌, ◌++◌, length, take, Option, Some, None, refl, sym, ap, ap₂, ◌∙◌, arith, true≢false, ⊎_elim, length-append}
use Rattle.std.specs.List.{AllByRecursion, list_all, list_any}
use Rattle.std.specs.Option.{option_map_or, option_or}
use Rattle.std.proofs.lemmas.Bool.{cases_Bool, cases_lt}
use Rattle.std.proofs.lemmas.Bool.Decides.{eqb_tells, leb_tells}
use Rattle.std.proofs.lemmas.List.Folds.{list_any-append}
use Rattle.class_rules.specs.Cycles.{GoRound, NumbersEach, have_parents_within, places_without, unnumbered}
use Rattle.class_rules.specs.Numbering.{closes_cycle, has_cycle, is_among, least_below, may_follow, numbered_on, numbering, row_at}
use Rattle.class_rules.proofs.Flags.{least_within}
use Rattle.class_rules.proofs.Least.{least_found, least_none}
use Rattle.class_rules.proofs.Ordered.{all_from_test, first_of, least_passes, second_of}

or_false : (a : Bool) → (a || false) ≡ a
or_false true = refl
or_false false = refl

or_true : (a : Bool) → (a || true) ≡ true
or_true true = refl
or_true false = refl

pub false_of : (a : Bool) → not a ≡ true → a ≡ false
false_of true h = absurd (true≢false (sym h))
false_of false h = refl

pub left_false : (a b : Bool) → (a || b) ≡ false → a ≡ false
left_false true b h = absurd (true≢false h)
left_false false b h = refl

right_true : (a b : Bool) → (a || not b) ≡ false → b ≡ true
right_true true b h = absurd (true≢false h)
right_true false true h = refl
right_true false false h = absurd (true≢false h)

-- a class more is among those that are done
with_one : (done : List ℕ) (i x : ℕ) → is_among (done ++ i ∷ []) x ≡ (is_among done x || nat_eq x i)
with_one done i x = list_any-append (nat_eq x) done (i ∷ []) ∙ ap (λ b. is_among done x || b) (or_false (nat_eq x i))

with_other : (done : List ℕ) (i x : ℕ) → nat_eq x i ≡ false → is_among (done ++ i ∷ []) x ≡ is_among done x
with_other done i x h = with_one done i x ∙ ap (λ b. is_among done x || b) h ∙ or_false (is_among done x)

less_apart : (a b : ℕ) → a < b → nat_eq a b ≡ false
less_apart a b h = ⊎_elim (λ t. let e : a ≡ b = t.1 in absurd (omega arith)) (λ t. t.0) (eqb_tells a b)

same_below : (done : List ℕ) (i n : ℕ) → n ≤ i → places_without (done ++ i ∷ []) n ≡ places_without done n
same_below done i zero h = refl
same_below done i (suc n) h =
    ap₂ (λ b l. cond (not b) (n ∷ l) l) (with_other done i n (less_apart n i (omega arith))) (same_below done i n (omega arith))

kept_length : (b : Bool) (n : ℕ) (l : List ℕ) → b ≡ false → length (cond (not b) (n ∷ l) l) ≡ suc (length l)
kept_length true n l h = absurd (true≢false h)
kept_length false n l h = refl

lost_length : (b : Bool) (n : ℕ) (l : List ℕ) → b ≡ true → length (cond (not b) (n ∷ l) l) ≡ length l
lost_length true n l h = refl
lost_length false n l h = absurd (true≢false (sym h))

both_length : (b : Bool) (n : ℕ) (l m : List ℕ) → length l ≡ suc (length m) → length (cond (not b) (n ∷ l) l) ≡ suc (length (cond (not b) (n ∷ m) m))
both_length true n l m h = h
both_length false n l m h = ap suc h

more_apart : (a b : ℕ) → b < a → nat_eq a b ≡ false
more_apart a b h = ⊎_elim (λ t. let e : a ≡ b = t.1 in absurd (omega arith)) (λ t. t.0) (eqb_tells a b)

alike : (a b : ℕ) → a ≡ b → nat_eq a b ≡ true
alike a b e = ⊎_elim (λ t. t.0) (λ t. absurd (t.1 e)) (eqb_tells a b)

one_less : (done : List ℕ) (i n : ℕ) → i < n → is_among done i ≡ false → length (places_without done n) ≡ suc (length (places_without (done ++ i ∷ []) n))
one_less done i zero h e = absurd (omega arith)
one_less done i (suc n) h e =
    ⊎_elim
    (λ low.
    both_length (is_among done n) n (places_without done n) (places_without (done ++ i ∷ []) n) (one_less done i n low e)
    ∙ ap (λ b. suc (length (cond (not b) (n ∷ places_without (done ++ i ∷ []) n) (places_without (done ++ i
    ∷ []) n)))) (sym (with_other done i n (more_apart n i low))))
    (λ high.
    let k : n ≡ i = omega arith in
    kept_length (is_among done n) n (places_without done n) (ap (is_among done) k ∙ e)
    ∙ ap (λ l. suc (length l)) (sym (same_below done i n high))
    ∙ ap suc (sym (lost_length (is_among (done ++ i ∷ []) n) n (places_without (done ++ i ∷ []) n)
    (with_one done i n ∙ ap (λ b. is_among done n || b) (alike n i k) ∙ or_true (is_among done n)))))
    (cases_lt i n)

-- what holds of the classes that have a number at each step
by_next : (P : List ℕ → Type 0) (parents : List (List ℕ)) (done : List ℕ) (n : ℕ) (o : Option ℕ) → P done → ((i : ℕ) → o ≡ Some i → P (numbered_on parents (done
    ++ i ∷ []) n)) →
    P (option_map_or (λ i. numbered_on parents (done ++ i ∷ []) n) o done)
by_next P parents done n None h f = h
by_next P parents done n (Some i) h f = f i refl

pub kept_on : (P : List ℕ → Type 0) (parents : List (List ℕ)) → ((done : List ℕ) (i : ℕ) → P done → i < length parents → may_follow parents done i ≡ true
    → P (done
    ++ i ∷ [])) →
    (done : List ℕ) (n : ℕ) → P done → P (numbered_on parents done n)
kept_on P parents step done zero h = h
kept_on P parents step done (suc n) h =
    by_next P parents done n (least_below (may_follow parents done) (length parents)) h
    (λ i e. kept_on P parents step (done ++ i ∷ []) n (step done i h (least_within (may_follow parents done) (length parents) i e) (least_passes
    (may_follow parents done) (length parents) i e)))

pub not_done : (parents : List (List ℕ)) (done : List ℕ) (i : ℕ) → may_follow parents done i ≡ true → is_among done i ≡ false
not_done parents done i h =
    false_of (is_among done i) (first_of (not (is_among done i)) (list_all (λ p. is_among done p || not (nat_lt p (length parents))) (row_at parents i)) h)

all_above : (parents : List (List ℕ)) (done : List ℕ) (i : ℕ) → may_follow parents done i ≡ true → list_all (λ p. is_among done p
    || not (nat_lt p (length parents))) (row_at parents i) ≡ true
all_above parents done i h = second_of (not (is_among done i)) (list_all (λ p. is_among done p || not (nat_lt p (length parents))) (row_at parents i)) h

none_without : (n : ℕ) → length (places_without [] n) ≡ n
none_without zero = refl
none_without (suc n) = ap suc (none_without n)

-- each class has a number or has none
pub counted : (parents : List (List ℕ)) → length (numbering parents) + length (unnumbered parents) ≡ length parents
counted parents =
    kept_on (λ done. length done + length (places_without done (length parents)) ≡ length parents) parents
    (λ done i h low follows.
    let one = one_less done i (length parents) low (not_done parents done i follows) in
    let more = length-append done (i ∷ []) in
    omega arith)
    [] (length parents) (let e = none_without (length parents) in omega arith)

stuck_by : (parents : List (List ℕ)) (done : List ℕ) (n : ℕ) (o : Option ℕ) → o ≡ least_below (may_follow parents done) (length parents) →
    length (option_map_or (λ i. numbered_on parents (done ++ i ∷ []) n) o done) < length done + suc n →
    ((i : ℕ) → length (numbered_on parents (done ++ i ∷ []) n) < length (done ++ i ∷ []) + n → least_below (may_follow parents (numbered_on parents (done ++ i
    ∷ []) n)) (length parents) ≡ None) →
    least_below (may_follow parents (option_map_or (λ i. numbered_on parents (done ++ i ∷ []) n) o done)) (length parents) ≡ None
stuck_by parents done n None e h f = sym e
stuck_by parents done n (Some i) e h f = f i (let more = length-append done (i ∷ []) in omega arith)

-- where not all get a number, in the end none may follow
stuck_end : (parents : List (List ℕ)) (done : List ℕ) (n : ℕ) → length (numbered_on parents done n) < length done + n →
    least_below (may_follow parents (numbered_on parents done n)) (length parents) ≡ None
stuck_end parents done zero h = absurd (omega arith)
stuck_end parents done (suc n) h =
    stuck_by parents done n (least_below (may_follow parents done) (length parents)) refl h (λ i. stuck_end parents (done ++ i ∷ []) n)

last_fails : (o : Option ℕ) (b : Bool) (n : ℕ) → option_or o (cond b (Some n) None) ≡ None → b ≡ false
last_fails None true n h = cc
last_fails None false n h = refl
last_fails (Some i) b n h = cc

first_none : (o p : Option ℕ) → option_or o p ≡ None → o ≡ None
first_none None p h = refl
first_none (Some i) p h = h

none_passes : (f : ℕ → Bool) (n i : ℕ) → least_below f n ≡ None → i < n → f i ≡ false
none_passes f zero i h low = absurd (omega arith)
none_passes f (suc n) i h low =
    ⊎_elim
    (λ less. none_passes f n i (first_none (least_below f n) (cond (f n) (Some n) None) h) less)
    (λ more. let e : i ≡ n = omega arith in ap f e ∙ last_fails (least_below f n) (f n) n h)
    (cases_lt i n)

tail_among : (b : Bool) (n p : ℕ) (l : List ℕ) → is_among l p ≡ true → is_among (cond b (n ∷ l) l) p ≡ true
tail_among true n p l h = ap (λ a. nat_eq p n || a) h ∙ or_true (nat_eq p n)
tail_among false n p l h = h

head_among : (b : Bool) (n p : ℕ) (l : List ℕ) → b ≡ false → p ≡ n → is_among (cond (not b) (n ∷ l) l) p ≡ true
head_among true n p l h e = absurd (true≢false h)
head_among false n p l h e = ap (λ a. a || is_among l p) (alike p n e)

pub is_without : (done : List ℕ) (n p : ℕ) → p < n → is_among done p ≡ false → is_among (places_without done n) p ≡ true
is_without done zero p h e = absurd (omega arith)
is_without done (suc n) p h e =
    ⊎_elim
    (λ low. tail_among (not (is_among done n)) n p (places_without done n) (is_without done n p low e))
    (λ high. let k : p ≡ n = omega arith in head_among (is_among done n) n p (places_without done n) (ap (is_among done) (sym k) ∙ e) k)
    (cases_lt p n)

weaker : {P Q : ℕ → Type 0} → ((x : ℕ) → P x → Q x) → (xs : List ℕ) → AllByRecursion P xs → AllByRecursion Q xs
weaker f [] h = tt
weaker f (x ∷ xs) h = (f x h.0, weaker f xs h.1)

all_kept : (P : ℕ → Type 0) (b : Bool) (n : ℕ) (l : List ℕ) → (b ≡ false → P n) → AllByRecursion P l → AllByRecursion P (cond (not b) (n ∷ l) l)
all_kept P true n l h g = g
all_kept P false n l h g = (h refl, g)

each_without : (done : List ℕ) (n : ℕ) → AllByRecursion (λ c. (c < n) × (is_among done c ≡ false)) (places_without done n)
each_without done zero = tt
each_without done (suc n) =
    all_kept (λ c. (c < suc n) × (is_among done c ≡ false)) (is_among done n) n (places_without done n) (λ e. (omega arith, e))
    (weaker (λ c h. (let low = h.0 in omega arith, h.1)) (places_without done n) (each_without done n))

test_all : (f : ℕ → Bool) (xs : List ℕ) → AllByRecursion (λ x. f x ≡ true) xs → list_all f xs ≡ true
test_all f [] h = refl
test_all f (x ∷ xs) h = ap₂ (λ a b. a && b) h.0 (test_all f xs h.1)

some_by : (f g : ℕ → Bool) (p : ℕ) (a b : Bool) → (f p && a) ≡ false → (f p ≡ false → g p ≡ true) → (a ≡ false → b ≡ true) → (g p || b) ≡ true
some_by f g p a b h here rest = ⊎_elim
    (λ e. ap (λ x. g p || x) (rest (sym (ap (λ x. x && a) e) ∙ h)) ∙ or_true (g p))
    (λ e. ap (λ x. x || b) (here e))
    (cases_Bool (f p))

-- where not all pass one test, some pass the other
some_pass : (f g : ℕ → Bool) (xs : List ℕ) → ((p : ℕ) → f p ≡ false → g p ≡ true) → list_all f xs ≡ false → list_any g xs ≡ true
some_pass f g [] h e = absurd (true≢false e)
some_pass f g (p ∷ ps) h e = some_by f g p (list_all f ps) (list_any g ps) e (h p) (some_pass f g ps h)

is_low : (p n : ℕ) → nat_lt p n ≡ true → p < n
is_low p n h = ⊎_elim (λ t. t.1) (λ t. absurd (true≢false (sym h ∙ t.0))) (leb_tells (suc p) n)

low_is : (p n : ℕ) → p < n → nat_lt p n ≡ true
low_is p n h = ⊎_elim (λ t. t.0) (λ t. let k : n < suc p = t.1 in absurd (omega arith)) (leb_tells (suc p) n)

module _ (parents : List (List ℕ)) (short : length (numbering parents) < length parents) where
  abbrev left : List ℕ
  left = unnumbered parents

  has_parent : (c : ℕ) → c < length parents → is_among (numbering parents) c ≡ false → list_any (is_among left) (row_at parents c) ≡ true
  has_parent c low e =
      some_pass (λ p. is_among (numbering parents) p || not (nat_lt p (length parents))) (is_among left) (row_at parents c)
      (λ p f. is_without (numbering parents) (length parents) p (is_low p (length parents) (right_true (is_among (numbering parents) p) (nat_lt p
      (length parents)) f)) (left_false (is_among (numbering parents) p) (not (nat_lt p (length parents))) f))
      (sym (ap (λ b. not b && list_all (λ p. is_among (numbering parents) p || not (nat_lt p (length parents))) (row_at parents c)) e)
      ∙ none_passes (may_follow parents (numbering parents)) (length parents) c (stuck_end parents [] (length parents) (let s : length (numbered_on parents []
      (length parents)) < length parents = short in omega arith)) low)

  pub left_go_round : GoRound parents left
  left_go_round = record {
    some = let e = counted parents in omega arith;
    each = test_all (λ c. nat_lt c (length parents) && list_any (is_among left) (row_at parents c)) left
        (weaker (λ c h. ap₂ (λ a b. a && b) (low_is c (length parents) h.0) (has_parent c h.0 h.1)) left (each_without (numbering parents) (length parents)));
  }

among_by : (f : ℕ → Bool) (x c : ℕ) (a b : Bool) → (f c && a) ≡ true → (nat_eq x c || b) ≡ true → (a ≡ true → b ≡ true → f x ≡ true) → f x ≡ true
among_by f x c a b h e rest =
    ⊎_elim
    (λ t. ap f t.1 ∙ first_of (f c) a h)
    (λ t. rest (second_of (f c) a h) (sym (ap (λ y. y || b) t.0) ∙ e))
    (eqb_tells x c)

pub among_passes : (f : ℕ → Bool) (cs : List ℕ) (x : ℕ) → list_all f cs ≡ true → is_among cs x ≡ true → f x ≡ true
among_passes f [] x h e = absurd (true≢false (sym e))
among_passes f (c ∷ cs) x h e = among_by f x c (list_all f cs) (is_among cs x) h e (among_passes f cs x)

none_by : (f g : ℕ → Bool) (p : ℕ) (a b : Bool) → (f p && a) ≡ true → (g p ≡ true → f p ≡ false) → (a ≡ true → b ≡ false) → (g p || b) ≡ false
none_by f g p a b h here rest = ⊎_elim
    (λ e. absurd (true≢false (sym (first_of (f p) a h) ∙ here e)))
    (λ e. ap (λ x. x || b) e ∙ rest (second_of (f p) a h))
    (cases_Bool (g p))

none_pass : (f g : ℕ → Bool) (xs : List ℕ) → ((p : ℕ) → g p ≡ true → f p ≡ false) → list_all f xs ≡ true → list_any g xs ≡ false
none_pass f g [] h e = refl
none_pass f g (p ∷ ps) h e = none_by f g p (list_all f ps) (list_any g ps) e (h p) (none_pass f g ps h)

some_length : (xs : List ℕ) (x : ℕ) → is_among xs x ≡ true → 0 < length xs
some_length [] x h = absurd (true≢false (sym h))
some_length (y ∷ ys) x h = omega arith

module _ (parents : List (List ℕ)) (cs : List ℕ) (each : have_parents_within parents cs ≡ true) where
  abbrev holds : ℕ → Bool
  holds c = nat_lt c (length parents) && list_any (is_among cs) (row_at parents c)

  within : (x : ℕ) → is_among cs x ≡ true → nat_lt x (length parents) ≡ true
  within x h = first_of (nat_lt x (length parents)) (list_any (is_among cs) (row_at parents x)) (among_passes holds cs x each h)

  parented : (x : ℕ) → is_among cs x ≡ true → list_any (is_among cs) (row_at parents x) ≡ true
  parented x h = second_of (nat_lt x (length parents)) (list_any (is_among cs) (row_at parents x)) (among_passes holds cs x each h)

  abbrev pub FreeOf : List ℕ → Type 0
  FreeOf done = (x : ℕ) → is_among cs x ≡ true → is_among done x ≡ false

  waits : (done : List ℕ) (i : ℕ) → FreeOf done → may_follow parents done i ≡ true → is_among cs i ≡ true → ⊥
  waits done i free follows h =
      true≢false
      (sym (parented i h)
      ∙ none_pass (λ p. is_among done p || not (nat_lt p (length parents))) (is_among cs) (row_at parents i)
      (λ p e. ap₂ (λ a b. a || not b) (free p e) (within p e)) (all_above parents done i follows))

  never : FreeOf (numbering parents)
  never =
      kept_on FreeOf parents
      (λ done i free low follows x h.
      with_one done i x
      ∙ ap₂ (λ a b. a || b) (free x h) (⊎_elim (λ t. absurd (waits done i free follows (ap (is_among cs) (sym t.1) ∙ h))) (λ t. t.0) (eqb_tells x i)))
      [] (length parents) (λ x h. refl)

  pub unfinished : (c : ℕ) → is_among cs c ≡ true → length (numbering parents) < length parents
  unfinished c h =
      let e = counted parents in
      let s = some_length (unnumbered parents) c (is_without (numbering parents) (length parents) c (is_low c (length parents) (within c h)) (never c h)) in
      omega arith

pub cycle_shown : (parents : List (List ℕ)) → nat_lt (length (numbering parents)) (length parents) ≡ true → GoRound parents (unnumbered parents)
cycle_shown parents h = left_go_round parents (is_low (length (numbering parents)) (length parents) h)

pub cycle_found : (parents : List (List ℕ)) (cs : List ℕ) → GoRound parents cs → nat_lt (length (numbering parents)) (length parents) ≡ true
cycle_found parents [] r = let s = r.some in absurd (omega arith)
cycle_found parents (c ∷ cs) r =
    low_is (length (numbering parents)) (length parents) (unfinished parents (c ∷ cs) r.each c (ap (λ b. b || is_among cs c) (alike c c refl)))

-- the rows of the first classes
front : (parents : List (List ℕ)) (a b c : ℕ) → a ≤ b → c < length (take a parents) → (c < length (take b parents)) × (row_at (take a parents) c ≡ row_at
    (take b parents) c)
front [] zero b c h low = absurd (omega arith)
front [] (suc a) b c h low = absurd (omega arith)
front (r ∷ rs) zero b c h low = absurd (omega arith)
front (r ∷ rs) (suc a) zero c h low = absurd (omega arith)
front (r ∷ rs) (suc a) (suc b) zero h low = (omega arith, refl)
front (r ∷ rs) (suc a) (suc b) (suc c) h low = let next = front rs a b c (omega arith) (omega arith) in (let k = next.0 in omega arith, next.1)

still : (parents : List (List ℕ)) (a b : ℕ) (cs : List ℕ) (c : ℕ) → a ≤ b → (nat_lt c (length (take a parents))
    && list_any (is_among cs) (row_at (take a parents) c)) ≡ true →
    (nat_lt c (length (take b parents)) && list_any (is_among cs) (row_at (take b parents) c)) ≡ true
still parents a b cs c h e =
    let low = is_low c (length (take a parents)) (first_of (nat_lt c (length (take a parents))) (list_any (is_among cs) (row_at (take a parents) c)) e) in
    let next = front parents a b c h low in
    ap₂ (λ p q. p && q) (low_is c (length (take b parents)) next.0)
    (ap (list_any (is_among cs)) (sym next.1) ∙ second_of (nat_lt c (length (take a parents))) (list_any (is_among cs) (row_at (take a parents) c)) e)

-- a cycle stays when classes are added
pub cycle_stays : (parents : List (List ℕ)) (a b : ℕ) → a ≤ b → has_cycle parents a ≡ true → has_cycle parents b ≡ true
cycle_stays parents a b h e =
    let round = cycle_shown (take a parents) e in
    let cs = unnumbered (take a parents) in
    cycle_found (take b parents) cs (record {
      some = round.some;
      each = test_all (λ c. nat_lt c (length (take b parents)) && list_any (is_among cs) (row_at (take b parents) c)) cs
          (weaker (λ c k. still parents a b cs c h k) cs (all_from_test (λ c. nat_lt c (length (take a parents))
          && list_any (is_among cs) (row_at (take a parents) c)) cs round.each));
    })

-- one class more closes a cycle
pub closing : (parents : List (List ℕ)) (low : ℕ) → low < length parents → has_cycle parents low ≡ false → has_cycle parents (suc low) ≡ true →
    least_below (closes_cycle parents) (length parents) ≡ Some low
closing parents low h before after =
    least_found (closes_cycle parents) (length parents) low
    (least_none (closes_cycle parents) low (λ i k. ⊎_elim (λ e. absurd (true≢false (sym (cycle_stays parents (suc i) low (omega arith) e)
    ∙ before))) (λ e. e) (cases_Bool (has_cycle parents (suc i)))))
    after h

-- without a cycle every class has one number
module _ (parents : List (List ℕ)) (none : nat_lt (length (numbering parents)) (length parents) ≡ false) where
  enough : length parents ≤ length (numbering parents)
  enough = ⊎_elim (λ t. absurd (true≢false (sym t.0 ∙ none))) (λ t. let k : length parents < suc (length (numbering parents)) = t.1
      in omega arith) (leb_tells (suc (length (numbering parents))) (length parents))

  pub numbers_each : NumbersEach (numbering parents) (length parents)
  numbers_each = record {
    as_many = let e = counted parents in let k = enough in omega arith;
    each = λ i low.
        ⊎_elim (λ e. e)
        (λ e.
        let some = some_length (unnumbered parents) i (is_without (numbering parents) (length parents) i low e) in
        let all = counted parents in
        let k = enough in
        absurd (omega arith))
        (cases_Bool (is_among (numbering parents) i));
  }
