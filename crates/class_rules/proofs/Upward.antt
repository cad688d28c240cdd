-- Which classes are above others, as going through them from the largest number down finds them.
use Rattle.std.proofs.Common.{◌≡◌, ℕ, zero, suc, ◌<◌, ◌≤◌, max, Bool, true, false, ◌||◌, List, [], ◌∷◌, ◌++◌, fold, nat_cmp, Less, is_eq, refl, sym, ap, ap₂, ◌∙◌, subst, length, true≢false, arith}
use Rattle.std.specs.List.{AllByRecursion, flat_map}
use Rattle.std.specs.Ordering.{match_ordering}
use Rattle.std.specs.BTreeSet.{insert_key}
use Rattle.std.specs.FinMap.{nat_cmp-IsAntisymmetric}
use Rattle.std.specs.List.Sorted.{IsStrictlySortedBy}
use Rattle.std.proofs.lemmas.Cmp.{nat_cmp_total, ranked}
use Rattle.std.proofs.lemmas.Grind.{flat_map-append}
use Rattle.std.proofs.lemmas.List.Folds.{list_any-append}
use Rattle.use_orders.specs.Canon.{has, insert_new}
use Rattle.use_orders.proofs.Merged.{is_set}
use Rattle.use_orders.proofs.Sets.{all-insert_new, has-insert_new, match_all}
use Rattle.class_rules.specs.Ancestors.{IsDownward, ancestors, upward}
use Rattle.class_rules.specs.Numbering.{row_at}

-- two functions that agree on the elements of a list
flat_alike : {A B : Type 0} (f g : A → List B) (xs : List A) → AllByRecursion (λ x. f x ≡ g x) xs → flat_map f xs ≡ flat_map g xs
flat_alike f g [] h = refl
flat_alike f g (x ∷ xs) h = ap₂ (λ a b. a ++ b) h.0 (flat_alike f g xs h.1)

all_from : {P Q : ℕ → Type 0} → ((x : ℕ) → P x → Q x) → (xs : List ℕ) → AllByRecursion P xs → AllByRecursion Q xs
all_from f [] h = tt
all_from f (x ∷ xs) h = (f x h.0, all_from f xs h.1)

-- more steps than the number of a class reach nothing more
upward_enough : (parents : List (List ℕ)) → IsDownward parents → (n m p : ℕ) → p < n → p < m → upward parents n p ≡ upward parents m p
upward_enough parents down zero m p h k = absurd (omega arith)
upward_enough parents down (suc n) zero p h k = absurd (omega arith)
upward_enough parents down (suc n) (suc m) p h k =
    ap (λ l. p ∷ l) (flat_alike (upward parents n) (upward parents m) (row_at parents p)
    (all_from (λ q low. upward_enough parents down n m q (omega arith) (omega arith)) (row_at parents p) (down p)))

-- a class and what is above it
abbrev pub above_class : List (List ℕ) → ℕ → List ℕ
above_class parents c = upward parents (suc c) c

abbrev pub above_all : List (List ℕ) → List ℕ → List ℕ
above_all parents cs = flat_map (above_class parents) cs

above_class_is : (parents : List (List ℕ)) → IsDownward parents → (c : ℕ) → above_class parents c ≡ c ∷ above_all parents (row_at parents c)
above_class_is parents down c =
    ap (λ l. c ∷ l) (flat_alike (upward parents c) (above_class parents) (row_at parents c)
    (all_from (λ q low. upward_enough parents down c (suc q) q low (omega arith)) (row_at parents c) (down c)))

abbrev pub is_in : List ℕ → ℕ → Bool
is_in xs z = has nat_cmp xs z

is_in-append : (xs ys : List ℕ) (z : ℕ) → is_in (xs ++ ys) z ≡ (is_in xs z || is_in ys z)
is_in-append xs ys z = list_any-append (λ y. is_eq (nat_cmp z y)) xs ys

or_comm : (a b : Bool) → (a || b) ≡ (b || a)
or_comm true true = refl
or_comm true false = refl
or_comm false true = refl
or_comm false false = refl

both_or : (a b c : Bool) → (a || (b || c)) ≡ ((a || b) || c)
both_or true b c = refl
both_or false b c = refl

again_or : (a b : Bool) → (a || b) ≡ ((a || b) || a)
again_or true b = refl
again_or false true = refl
again_or false false = refl

or_false : (a : Bool) → a ≡ (a || false)
or_false true = refl
or_false false = refl

shuffle : (a r e f : Bool) → ((a || r) || (e || f)) ≡ ((a || ((e || r) || false)) || f)
shuffle true r e f = refl
shuffle false true true f = refl
shuffle false true false f = refl
shuffle false false true f = refl
shuffle false false false f = refl

pub insert_same : (xs : List ℕ) (x : ℕ) → insert_key nat_cmp xs x ≡ insert_new nat_cmp xs x
insert_same [] x = refl
insert_same (y ∷ ys) x = ap (λ l. match_ordering (nat_cmp x y) (x ∷ y ∷ ys) (y ∷ ys) (y ∷ l)) (insert_same ys x)

module _ (parents : List (List ℕ)) where
  abbrev is_above : List ℕ → ℕ → Bool
  is_above cs z = is_in (above_all parents cs) z

  above_insert : (ks : List ℕ) (c z : ℕ) → is_above (insert_key nat_cmp ks c) z ≡ (is_above ks z || is_in (above_class parents c) z)
  above_insert [] c z = is_in-append (above_class parents c) [] z ∙ or_comm (is_in (above_class parents c) z) false
  above_insert (k ∷ ks) c z =
      let first = is_in-append (above_class parents k) (above_all parents ks) z in
      match_all (λ l. is_above l z ≡ (is_above (k ∷ ks) z || is_in (above_class parents c) z)) (nat_cmp c k) (c ∷ k ∷ ks) (k ∷ ks) (k ∷ insert_key nat_cmp ks c)
      (λ _. is_in-append (above_class parents c) (above_all parents (k ∷ ks)) z ∙ or_comm (is_in (above_class parents c) z) (is_above (k ∷ ks) z))
      (λ e. first ∙ again_or (is_in (above_class parents k) z) (is_above ks z)
      ∙ ap₂ (λ p q. p || q) (sym first) (ap (λ d. is_in (above_class parents d) z) (sym (nat_cmp-IsAntisymmetric c k e))))
      (λ _. is_in-append (above_class parents k) (above_all parents (insert_key nat_cmp ks c)) z
      ∙ ap (λ b. is_in (above_class parents k) z || b) (above_insert ks c z)
      ∙ both_or (is_in (above_class parents k) z) (is_above ks z) (is_in (above_class parents c) z)
      ∙ ap (λ b. b || is_in (above_class parents c) z) (sym first))

  above_fold : (ks cs : List ℕ) (z : ℕ) → is_above (fold (insert_key nat_cmp) ks cs) z ≡ (is_above ks z || is_above cs z)
  above_fold ks [] z = or_false (is_above ks z)
  above_fold ks (c ∷ cs) z =
      above_fold (insert_key nat_cmp ks c) cs z
      ∙ ap (λ b. b || is_above cs z) (above_insert ks c z)
      ∙ sym (both_or (is_above ks z) (is_in (above_class parents c) z) (is_above cs z))
      ∙ ap (λ b. is_above ks z || b) (sym (is_in-append (above_class parents c) (above_all parents cs) z))

  -- what is above those still to be gone through, and what was found, are what is above a class
  pub record IsSearched (class : ℕ) (todo found : List ℕ) : Type 0 where
    pub same : (z : ℕ) → (is_above todo z || is_in found z) ≡ is_in (above_class parents class) z

  pub searched_start : (class : ℕ) → IsSearched class (class ∷ []) []
  searched_start class = record {
    same = λ z. sym (or_false (is_above (class ∷ []) z)) ∙ is_in-append (above_class parents class) [] z
        ∙ sym (or_false (is_in (above_class parents class) z));
  }

  pub searched_on : IsDownward parents → (class k : ℕ) (ks found : List ℕ) → IsSearched class (ks ++ k ∷ []) found
      → IsSearched class (fold (insert_key nat_cmp) ks (row_at parents k)) (insert_key nat_cmp found k)
  searched_on down class k ks found before = record {
    same = λ z.
        let a = is_above ks z in
        let r = is_above (row_at parents k) z in
        let e = is_eq (nat_cmp z k) in
        let f = is_in found z in
        let one = ap (λ l. is_in l z) (above_class_is parents down k) in
        let last = is_in-append (above_class parents k) [] z ∙ ap (λ b. b || false) one in
        let all = ap (λ l. is_in l z) (flat_map-append (above_class parents) ks (k ∷ [])) ∙ is_in-append (above_all parents ks) (above_class parents k ++ []) z
        ∙ ap (λ b. a || b) last in
        ap₂ (λ p q. p || q) (above_fold ks (row_at parents k) z) (ap (λ l. is_in l z) (insert_same found k) ∙ has-insert_new nat_cmp_total found k z)
        ∙ shuffle a r e f
        ∙ ap (λ b. b || f) (sym all)
        ∙ before.same z;
  }

  pub searched_end : (class : ℕ) (found : List ℕ) → IsSearched class [] found → IsStrictlySortedBy nat_cmp found → found ≡ ancestors parents class
  searched_end class found done up = is_set nat_cmp_total nat_cmp-IsAntisymmetric found (above_class parents class) up done.same

-- one more than the largest of some numbers
abbrev pub top : List ℕ → ℕ
top [] = 0
top (x ∷ xs) = max (suc x) (top xs)

top_below : (n : ℕ) (xs : List ℕ) → AllByRecursion (λ x. x < n) xs → top xs ≤ n
top_below n [] h = omega arith
top_below n (x ∷ xs) h = let rest = top_below n xs h.1 in let here = h.0 in omega arith

top_last : (xs : List ℕ) (k : ℕ) → k < top (xs ++ k ∷ [])
top_last [] k = omega arith
top_last (x ∷ xs) k = let rest = top_last xs k in omega arith

all_fold : (n : ℕ) (ks cs : List ℕ) → AllByRecursion (λ x. x < n) ks → AllByRecursion (λ x. x < n) cs
    → AllByRecursion (λ x. x < n) (fold (insert_key nat_cmp) ks cs)
all_fold n ks [] h g = h
all_fold n ks (c ∷ cs) h g =
    all_fold n (insert_key nat_cmp ks c) cs (subst (AllByRecursion (λ x. x < n)) (sym (insert_same ks c)) (all-insert_new nat_cmp_total
    (λ x. x < n) ks c g.0 h)) g.1

-- what is still to be gone through gets smaller
pub top_falls : (parents : List (List ℕ)) → IsDownward parents → (ks : List ℕ) (k : ℕ) → AllByRecursion (λ x. x < k) ks
    → top (fold (insert_key nat_cmp) ks (row_at parents k)) < top (ks ++ k ∷ [])
top_falls parents down ks k h =
    let low = top_below k (fold (insert_key nat_cmp) ks (row_at parents k)) (all_fold k ks (row_at parents k) h (down k)) in
    let high = top_last ks k in
    omega arith

pub no_keys : (ks : List ℕ) → (0 < length ks → false ≡ true) → ks ≡ []
no_keys [] h = refl
no_keys (k ∷ ks) h = absurd (true≢false (sym (h (omega arith))))

pub all_less : (k : ℕ) (ks : List ℕ) → AllByRecursion (λ q. nat_cmp q k ≡ Less) ks → AllByRecursion (λ q. q < k) ks
all_less k ks h = all_from (λ q e. ranked q k Less (sym e)) ks h
