-- Each element at its first place, step by step.
use Rattle.std.proofs.Common.{◌≡◌, ◌||◌, ◌++◌, ◌+◌, ◌<◌, ℕ, not, Bool, true, false, cond, fold, List, [], ◌∷◌, take, get_or, length, refl, sym, ap, ap₂, ◌∙◌}
use Rattle.std.proofs.Common.{Ordering, is_eq, Bor, arith, ⊎_elim, length-append, suc}
use Rattle.std.specs.BTreeSet.{insert_key}
use Rattle.std.specs.List.{list_any}
use Rattle.std.specs.Cmp.{IsTotalOrder}
use Rattle.std.proofs.lemmas.Cmp.{alike_right}
use Rattle.std.proofs.lemmas.List.{take_more, take_at, get_or_append_left, get_or_push, get_or_default, get_or-append-add, length_push}
use Rattle.std.proofs.lemmas.Bool.{cond_both, cases_lt}
use Rattle.std.proofs.lemmas.List.Folds.{list_any-append}
use Rattle.std.proofs.lemmas.List.Sums.{fold_more, fold_push}
use Rattle.use_orders.specs.Canon.{has, add_new, firsts_of}
use Rattle.use_orders.specs.Walks.{is_first}
use Rattle.use_orders.proofs.Sets.{equal, match_all, once_or, swap_or}
use Rattle.use_orders.proofs.Merged.{has_alike, or_false, or_assoc}

pub covered : (a b : Bool) → (b ≡ true → a ≡ true) → a ≡ (a || b)
covered true b h = refl
covered false true h = h refl
covered false false h = refl

pub or_swap : (a b : Bool) → (a || b) ≡ (b || a)
or_swap true true = refl
or_swap true false = refl
or_swap false true = refl
or_swap false false = refl

not_cond : {X : Type 0} (b : Bool) (x y : X) → cond b x y ≡ cond (not b) y x
not_cond true x y = refl
not_cond false x y = refl

module _ {K : Type 0} {cmp : K → K → Ordering} (o : IsTotalOrder cmp) where
  has-add_new : (seen : List K) (x z : K) → has cmp (add_new cmp seen x) z ≡ (has cmp seen z || is_eq (cmp z x))
  has-add_new seen x z =
      cond_both (has cmp seen x) seen (seen ++ x ∷ []) (λ l. has cmp l z ≡ (has cmp seen z || is_eq (cmp z x)))
      (λ t. covered (has cmp seen z) (is_eq (cmp z x)) (λ e. has_alike o seen z x (equal (cmp z x) e) ∙ t))
      (λ _. list_any-append (λ y. is_eq (cmp z y)) seen (x ∷ []) ∙ ap (λ b. has cmp seen z || b) (or_false (is_eq (cmp z x))))

  has-firsts_onto : (seen xs : List K) (z : K) → has cmp (fold (add_new cmp) seen xs) z ≡ (has cmp seen z || has cmp xs z)
  has-firsts_onto seen [] z = sym (or_false (has cmp seen z))
  has-firsts_onto seen (x ∷ xs) z =
      has-firsts_onto (add_new cmp seen x) xs z
      ∙ ap (λ b. b || has cmp xs z) (has-add_new seen x z)
      ∙ or_assoc (has cmp seen z) (is_eq (cmp z x)) (has cmp xs z)

  pub has-firsts_of : (xs : List K) (z : K) → has cmp (firsts_of cmp xs) z ≡ has cmp xs z
  has-firsts_of xs z = has-firsts_onto [] xs z

  -- a loop's step
  pub firsts_more : (xs : List K) (i : ℕ) (d : K) → i < length xs
      → firsts_of cmp (take (i + 1) xs) ≡ cond (is_first cmp xs i (get_or xs i d)) (firsts_of cmp (take i xs) ++ get_or xs i d ∷ []) (firsts_of cmp (take i xs))
  firsts_more xs i d l =
      fold_more (add_new cmp) [] xs i d l
      ∙ ap (λ b. cond b (firsts_of cmp (take i xs)) (firsts_of cmp (take i xs) ++ get_or xs i d ∷ [])) (has-firsts_of (take i xs) (get_or xs i d))
      ∙ not_cond (has cmp (take i xs) (get_or xs i d)) (firsts_of cmp (take i xs)) (firsts_of cmp (take i xs) ++ get_or xs i d ∷ [])

  -- the same at a set of references
  pub seen_more : (keys : List (Bor K)) (x : Bor K) (z : K)
      → list_any (λ y. is_eq (cmp z y.now)) (insert_key (λ a b. cmp a.now b.now) keys x) ≡ (is_eq (cmp z x.now) || list_any (λ y. is_eq (cmp z y.now)) keys)
  seen_more [] x z = refl
  seen_more (y ∷ ys) x z =
      match_all (λ l. list_any (λ w. is_eq (cmp z w.now)) l ≡ (is_eq (cmp z x.now) || list_any (λ w. is_eq (cmp z w.now)) (y ∷ ys))) (cmp x.now y.now)
      (x ∷ y ∷ ys) (y ∷ ys) (y ∷ insert_key (λ a b. cmp a.now b.now) ys x)
      (λ _. refl)
      (λ e. sym (ap (λ r. is_eq r || (is_eq (cmp z y.now) || list_any (λ w. is_eq (cmp z w.now)) ys)) (alike_right o x.now y.now z e)
      ∙ once_or (is_eq (cmp z y.now)) (list_any (λ w. is_eq (cmp z w.now)) ys)))
      (λ _. ap (λ b. is_eq (cmp z y.now) || b) (seen_more ys x z) ∙ swap_or (is_eq (cmp z y.now)) (is_eq (cmp z x.now)) (list_any (λ w. is_eq
      (cmp z w.now)) ys))

  pub marked_more : (xs : List K) (i : ℕ) (keys keys' : List (Bor K)) (x : Bor K) → i < length xs → x.now ≡ get_or xs i x.now
      → keys' ≡ insert_key (λ a b. cmp a.now b.now) keys x
      → ((z : K) → list_any (λ y. is_eq (cmp z y.now)) keys ≡ has cmp (take i xs) z) → (z : K)
      → list_any (λ y. is_eq (cmp z y.now)) keys' ≡ has cmp (take (i + 1) xs) z
  marked_more xs i keys keys' x l at is same z =
      ap (list_any (λ y. is_eq (cmp z y.now))) is ∙ seen_more keys x z ∙ ap (λ b. is_eq (cmp z x.now) || b) (same z)
      ∙ or_swap (is_eq (cmp z x.now)) (has cmp (take i xs) z)
      ∙ ap (λ b. has cmp (take i xs) z || b) (sym (or_false (is_eq (cmp z x.now))) ∙ ap (λ v. is_eq (cmp z v) || false) at)
      ∙ sym (list_any-append (λ y. is_eq (cmp z y)) (take i xs) (get_or xs i x.now ∷ []))
      ∙ ap (λ ys. has cmp ys z) (sym (take_more xs i x.now l))

  pub places_more : (xs : List K) (i : ℕ) (ps ps' : List Bool) (b : Bool) (x : K) → i < length xs → length ps ≡ i → ps' ≡ ps ++ b ∷ [] → x ≡ get_or xs i x
      → b ≡ is_first cmp xs i x
      → ((k : ℕ) (d : K) → k < i → get_or ps k true ≡ is_first cmp xs k (get_or xs k d)) → (k : ℕ) (d : K) → k < i + 1
      → get_or ps' k true ≡ is_first cmp xs k (get_or xs k d)
  places_more xs i ps ps' b x l len is at first before k d within =
      ⊎_elim
      (λ low. ap (λ l. get_or l k true) is ∙ get_or_append_left ps (b ∷ []) true k (omega arith) ∙ before k d low)
      (λ top.
      let k_is : k ≡ i = omega arith in
      ap (λ l. get_or l k true) is
      ∙ get_or_push ps b true k (len ∙ sym k_is)
      ∙ first
      ∙ ap₂ (λ j v. is_first cmp xs j v) (sym k_is) (at ∙ get_or_default xs i x d l ∙ ap (λ j. get_or xs j d) (sym k_is)))
      (cases_lt k i)

  first_is : (xs ys rest : List K) (x : K) (i : ℕ) → xs ≡ ys ++ x ∷ rest → i ≡ length ys → is_first cmp xs i x ≡ not (has cmp (firsts_of cmp ys) x)
  first_is xs ys rest x i whole at = ap (λ l. not (has cmp l x)) (ap (take i) whole ∙ take_at ys (x ∷ rest) i (sym at)) ∙ sym (ap not (has-firsts_of ys x))

  read_is : (xs ys rest : List K) (x d : K) (i : ℕ) → xs ≡ ys ++ x ∷ rest → i ≡ length ys → get_or xs i d ≡ x
  read_is xs ys rest x d i whole at = ap₂ (λ l j. get_or l j d) whole (at ∙ omega arith) ∙ get_or-append-add ys (x ∷ rest) 0 d

  pub kept_more : (xs ys left rest : List K) (x : K) (i : ℕ) (ps : List Bool) (b : Bool) (out out' : List K) → xs ≡ ys ++ left → left ≡ x ∷ rest → i ≡ length ys
      → length ps ≡ length xs
      → ((k : ℕ) (d : K) → k < length xs → get_or ps k true ≡ is_first cmp xs k (get_or xs k d)) → b ≡ get_or ps i b → out ≡ firsts_of cmp ys
      → out' ≡ cond b (out ++ x ∷ []) out → out' ≡ firsts_of cmp (ys ++ x ∷ [])
  kept_more xs ys left rest x i ps b out out' whole next at len places read before after =
      let all : xs ≡ ys ++ x ∷ rest = whole ∙ ap (λ l. ys ++ l) next in
      let within : i < length xs =
      let n = ap length all ∙ length-append ys (x ∷ rest) in
      let m : length (x ∷ rest) ≡ suc (length rest) = refl in
      omega (arith, n, m, at) in
      let fits : i < length ps = omega (arith, within, len) in
      let is : b ≡ not (has cmp (firsts_of cmp ys) x) = read ∙ get_or_default ps i b true fits ∙ places i x within
      ∙ ap (λ v. is_first cmp xs i v) (read_is xs ys rest x x i all at) ∙ first_is xs ys rest x i all at in
      after ∙ ap (λ c. cond c (out ++ x ∷ []) out) is ∙ ap (λ l. cond (not (has cmp (firsts_of cmp ys) x)) (l ++ x ∷ []) l) before
      ∙ sym (not_cond (has cmp (firsts_of cmp ys) x) (firsts_of cmp ys) (firsts_of cmp ys ++ x ∷ [])) ∙ sym (fold_push (add_new cmp) [] ys x)

  pub at_more : (ys : List K) (x : K) (i : ℕ) → i ≡ length ys → i + 1 ≡ length (ys ++ x ∷ [])
  at_more ys x i at =
      let n = length_push ys x in
      omega (arith, n, at)
