-- The element that is related to all others, where what is related is not greater.
use Rattle.std.proofs.Common.{◌≡◌, ℕ, suc, ◌+◌, ◌<◌, ◌≤◌, Bool, true, false, not, ◌&&◌, ◌||◌, cond, nat_lt, List, [], ◌∷◌, ◌++◌, fold, filter, find, get_or, length, take, Option, Some, None, refl, sym, ap, ◌∙◌, arith, true≢false, ⊎_elim, subst}
use Rattle.std.specs.List.{AllByRecursion, list_all}
use Rattle.std.specs.Option.{option_and_then}
use Rattle.std.proofs.lemmas.Bool.Decides.{leb_tells}
use Rattle.std.proofs.lemmas.List.{take_more}
use Rattle.std.proofs.lemmas.List.Elements.{filter-append}
use Rattle.std.proofs.lemmas.List.Sums.{fold-append}
use Rattle.class_model.specs.Indexes.{greater_by, greatest_by}

first_of : (a b : Bool) → (a && b) ≡ true → a ≡ true
first_of true b h = refl
first_of false b h = h

second_of : (a b : Bool) → (a && b) ≡ true → b ≡ true
second_of true b h = h
second_of false b h = absurd (true≢false (sym h))

all_snoc : (P : ℕ → Type 0) (xs : List ℕ) (x : ℕ) → AllByRecursion P xs → P x → AllByRecursion P (xs ++ x ∷ [])
all_snoc P [] x h p = (p, tt)
all_snoc P (y ∷ ys) x h p = (h.0, all_snoc P ys x h.1 p)

all_after : (P : ℕ → Type 0) (xs ys : List ℕ) → AllByRecursion P xs → AllByRecursion P ys → AllByRecursion P (xs ++ ys)
all_after P [] ys h g = g
all_after P (x ∷ xs) ys h g = (h.0, all_after P xs ys h.1 g)

drop_nil : (xs : List ℕ) → xs ++ [] ≡ xs
drop_nil [] = refl
drop_nil (x ∷ xs) = ap (λ l. x ∷ l) (drop_nil xs)

all_weaker : {P Q : ℕ → Type 0} → ((x : ℕ) → P x → Q x) → (xs : List ℕ) → AllByRecursion P xs → AllByRecursion Q xs
all_weaker f [] h = tt
all_weaker f (x ∷ xs) h = (f x h.0, all_weaker f xs h.1)

module _ (key : ℕ → ℕ) where
  -- the elements before b have smaller keys, and those behind it no greater ones
  pub record IsGreatest (b : ℕ) (xs ys : List ℕ) : Type 0 where
    pub before : AllByRecursion (λ x. key x < key b) xs
    pub behind : AllByRecursion (λ y. key y ≤ key b) ys

  module _ (r : ℕ → ℕ → Bool) (low : (a b : ℕ) → r a b ≡ true → b ≤ a) where
    abbrev pub passes : List ℕ → ℕ → Bool
    passes all o = list_all (λ p. r (key o) (key p)) all

    related : (o b : ℕ) (xs ys : List ℕ) → passes (xs ++ b ∷ ys) o ≡ true → r (key o) (key b) ≡ true
    related o b [] ys h = first_of (r (key o) (key b)) (passes ys o) h
    related o b (x ∷ xs) ys h = related o b xs ys (second_of (r (key o) (key x)) (passes (xs ++ b ∷ ys) o) h)

    skip : (x : ℕ) (p : Bool) (o : Option ℕ) → (p ≡ true → ⊥) → cond p (Some x) o ≡ o
    skip x true o h = absurd (h refl)
    skip x false o h = refl

    skipped : (all xs ys : List ℕ) → AllByRecursion (λ x. passes all x ≡ true → ⊥) xs → find (passes all) (xs ++ ys) ≡ find (passes all) ys
    skipped all [] ys h = refl
    skipped all (x ∷ xs) ys h = skip x (passes all x) (find (passes all) (xs ++ ys)) h.0 ∙ skipped all xs ys h.1

    none_left : (all ys : List ℕ) → AllByRecursion (λ x. passes all x ≡ true → ⊥) ys → find (passes all) ys ≡ None
    none_left all [] h = refl
    none_left all (y ∷ ys) h = skip y (passes all y) (find (passes all) ys) h.0 ∙ none_left all ys h.1

    here : (all : List ℕ) (b : ℕ) (ys : List ℕ) (p : Bool) → (p ≡ false → find (passes all) ys ≡ None) → cond p (Some b) (find (passes all) ys) ≡ cond p
        (Some b) None
    here all b ys true h = refl
    here all b ys false h = h refl

    same_passes : (all : List ℕ) (x b : ℕ) → key x ≡ key b → passes all x ≡ passes all b
    same_passes all x b e = ap (λ k. list_all (λ p. r k (key p)) all) e

    pub found_is : (b : ℕ) (xs ys : List ℕ) → IsGreatest b xs ys → find (passes (xs ++ b ∷ ys)) (xs ++ b ∷ ys) ≡ cond (passes (xs ++ b ∷ ys) b) (Some b) None
    found_is b xs ys g =
        let all = xs ++ b ∷ ys in
        skipped all xs (b ∷ ys) (all_weaker (λ x less h. let up = low (key x) (key b) (related x b xs ys h) in let k : key x < key b = less in absurd
        (omega arith)) xs g.before)
        ∙ here all b ys (passes all b)
        (λ fails. none_left all ys
        (all_weaker
        (λ y most h.
        let up = low (key y) (key b) (related y b xs ys h) in
        let k : key y ≤ key b = most in
        let e : key y ≡ key b = omega arith in
        true≢false (sym h ∙ same_passes all y b e ∙ fails))
        ys g.behind))

  abbrev greater : Option ℕ → ℕ → ℕ
  greater best o = greater_by key best o

  abbrev pub greatest : Option ℕ → List ℕ → Option ℕ
  greatest best os = fold (λ best o. Some (greater best o)) best os

  -- the greatest element of a list, and what stands before and behind it
  pub record Parted (all : List ℕ) (o : Option ℕ) : Type 0 where
    pub b : ℕ
    pub xs : List ℕ
    pub ys : List ℕ
    pub is : o ≡ Some b
    pub all_is : all ≡ xs ++ b ∷ ys
    pub great : IsGreatest b xs ys

  snoc_is : (xs : List ℕ) (b : ℕ) (ys : List ℕ) (o : ℕ) → (xs ++ b ∷ ys) ++ o ∷ [] ≡ xs ++ b ∷ (ys ++ o ∷ [])
  snoc_is [] b ys o = refl
  snoc_is (x ∷ xs) b ys o = ap (λ l. x ∷ l) (snoc_is xs b ys o)

  step_is : (xs : List ℕ) (b : ℕ) (ys rest : List ℕ) → (xs ++ b ∷ ys) ++ rest ≡ xs ++ b ∷ (ys ++ rest)
  step_is [] b ys rest = refl
  step_is (x ∷ xs) b ys rest = ap (λ l. x ∷ l) (step_is xs b ys rest)

  join_is : (xs : List ℕ) (o : ℕ) (rest : List ℕ) → xs ++ o ∷ rest ≡ (xs ++ o ∷ []) ++ rest
  join_is [] o rest = refl
  join_is (x ∷ xs) o rest = ap (λ l. x ∷ l) (join_is xs o rest)

  parts_from : (b : ℕ) (xs ys rest : List ℕ) → IsGreatest b xs ys → Parted ((xs ++ b ∷ ys) ++ rest) (greatest (Some b) rest)
  parts_from b xs ys [] g = record { b = b; xs = xs; ys = ys; is = refl; all_is = step_is xs b ys [] ∙ ap (λ l. xs ++ b ∷ l) (drop_nil ys); great = g }
  parts_from b xs ys (o ∷ rest) g =
      ⊎_elim
      (λ t.
      let more : key b < key o = t.1 in
      let start : IsGreatest o (xs ++ b ∷ ys) [] = record {
        before = all_after (λ x. key x < key o) xs (b ∷ ys) (all_weaker (λ x h. let k : key x < key b = h in omega arith) xs g.before)
            (more, all_weaker (λ y h. let k : key y ≤ key b = h in omega arith) ys g.behind);
        behind = tt;
      } in
      subst (λ q. Parted ((xs ++ b ∷ ys) ++ o ∷ rest) (greatest (Some q) rest)) (ap (λ c. cond c o b) (sym t.0))
      (subst (λ l. Parted l (greatest (Some o) rest)) (sym (join_is (xs ++ b ∷ ys) o rest)) (parts_from o (xs ++ b ∷ ys) [] rest start)))
      (λ t.
      let most : key o < key b + 1 = let k = t.1 in omega arith in
      let start : IsGreatest b xs (ys ++ o ∷ []) = record { before = g.before; behind = all_snoc (λ y. key y ≤ key b) ys o g.behind (omega arith) } in
      subst (λ q. Parted ((xs ++ b ∷ ys) ++ o ∷ rest) (greatest (Some q) rest)) (ap (λ c. cond c o b) (sym t.0))
      (subst (λ l. Parted l (greatest (Some b) rest)) (sym (join_is (xs ++ b ∷ ys) o rest ∙ ap (λ l. l ++ rest) (snoc_is xs b ys o)))
      (parts_from b xs (ys ++ o ∷ []) rest start)))
      (leb_tells (suc (key b)) (key o))

  -- the one that is related to all others is the greatest, if any is
  pub greatest_found : (r : ℕ → ℕ → Bool) → ((a b : ℕ) → r a b ≡ true → b ≤ a) → (all : List ℕ) →
      option_and_then (λ b. cond (list_all (λ p. r (key b) (key p)) all) (Some b) None) (greatest_by key all) ≡ find
      (λ o. list_all (λ p. r (key o) (key p)) all) all
  greatest_found r low [] = refl
  greatest_found r low (o ∷ rest) =
      let p : Parted (o ∷ rest) (greatest (Some o) rest) = parts_from o [] [] rest (record { before = tt; behind = tt }) in
      ap (option_and_then (λ b. cond (list_all (λ q. r (key b) (key q)) (o ∷ rest)) (Some b) None)) p.is
      ∙ ap (λ l. cond (list_all (λ q. r (key p.b) (key q)) l) (Some p.b) None) p.all_is
      ∙ sym (found_is r low p.b p.xs p.ys p.great)
      ∙ ap (λ l. find (λ x. list_all (λ q. r (key x) (key q)) l) l) (sym p.all_is)

filtered : (b : Bool) (p : ℕ → Bool) (x : ℕ) (xs : List ℕ) → list_all p (cond b (x ∷ xs) xs) ≡ ((not b || p x) && list_all p xs)
filtered true p x xs = refl
filtered false p x xs = refl

pub all_filter : (p q : ℕ → Bool) (xs : List ℕ) → list_all p (filter q xs) ≡ list_all (λ x. not (q x) || p x) xs
all_filter p q [] = refl
all_filter p q (x ∷ xs) = filtered (q x) p x (filter q xs) ∙ ap (λ b. (not (q x) || p x) && b) (all_filter p q xs)

-- one number more, where it passes
pub greatest_more : (key : ℕ → ℕ) (os : List ℕ) (b : Bool) (i : ℕ) → cond b (Some (greater_by key (greatest_by key os) i)) (greatest_by key os)
    ≡ greatest_by key (os ++ cond b (i ∷ []) [])
greatest_more key os true i = sym (fold-append (λ best o. Some (greater_by key best o)) None os (i ∷ []))
greatest_more key os false i = sym (fold-append (λ best o. Some (greater_by key best o)) None os [])

pub filter_more : (test : ℕ → Bool) (xs : List ℕ) (i : ℕ) → i < length xs → filter test (take (i + 1) xs) ≡ filter test (take i xs) ++ cond
    (test (get_or xs i 0)) (get_or xs i 0 ∷ []) []
filter_more test xs i h = ap (filter test) (take_more xs i 0 h) ∙ filter-append test (take i xs) (get_or xs i 0 ∷ [])
