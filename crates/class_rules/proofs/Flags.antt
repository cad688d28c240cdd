-- Flags that tell which classes have a number.
use Rattle.std.proofs.Common.{◌≡◌, ℕ, zero, suc, ◌+◌, ◌-◌, ◌<◌, ◌≤◌, Bool, true, false, not, ◌&&◌, ◌||◌, nat_eq, nat_lt, List, [], ◌∷◌, ◌++◌, length, get_or, replicate, cond, Option, Some, None, refl, sym, ap, ap₂, ◌∙◌, arith, ⊎_elim}
use Rattle.std.specs.List.{list_all}
use Rattle.std.specs.Prelude.{slice_set}
use Rattle.std.specs.Option.{option_map_or, option_or}
use Rattle.std.proofs.lemmas.Bool.Decides.{eqb_tells, leb_tells}
use Rattle.std.proofs.lemmas.List.{get_or-replicate, get_or-set_other, get_or-set_same, length-replicate, length-set}
use Rattle.std.proofs.lemmas.List.Folds.{list_any-append}
use Rattle.class_rules.specs.Numbering.{is_among, least_below, may_follow, numbered_on, numbering, row_at}
use Rattle.class_rules.proofs.Least.{least_alike}

-- the flags are those of the classes that have a number
pub record IsFlagged (n : ℕ) (done : List Bool) (order : List ℕ) : Type 0 where
  pub size : length done ≡ n
  pub same : (i : ℕ) → i < n → get_or done i true ≡ is_among order i

past_end : {A : Type 0} (xs : List A) (i : ℕ) (d : A) → length xs ≤ i → get_or xs i d ≡ d
past_end [] i d h = refl
past_end (x ∷ xs) zero d h = absurd (omega arith)
past_end (x ∷ xs) (suc i) d h = past_end xs i d (omega arith)

or_true : (a : Bool) → true ≡ (a || true)
or_true true = refl
or_true false = refl

or_false : (a : Bool) → a ≡ (a || false)
or_false true = refl
or_false false = refl

-- a flag, with the flags of places past the end
flag_is : (n : ℕ) (done : List Bool) (order : List ℕ) → IsFlagged n done order → (p : ℕ) → get_or done p true ≡ (is_among order p || not (nat_lt p n))
flag_is n done order flags p =
    ⊎_elim
    (λ t. flags.same p (t.1) ∙ or_false (is_among order p) ∙ ap (λ b. is_among order p || not b) (sym t.0))
    (λ t. past_end done p true (let e : length done ≡ n = flags.size in let k : n < suc p = t.1 in omega arith) ∙ or_true (is_among order p)
    ∙ ap (λ b. is_among order p || not b) (sym t.0))
    (leb_tells (suc p) n)

all_alike : (f g : ℕ → Bool) → ((p : ℕ) → f p ≡ g p) → (ps : List ℕ) → list_all f ps ≡ list_all g ps
all_alike f g h [] = refl
all_alike f g h (p ∷ ps) = ap₂ (λ a b. a && b) (h p) (all_alike f g h ps)

-- the test of the flags is the one of the definition
pub next_is : (parents : List (List ℕ)) (done : List Bool) (order : List ℕ) → IsFlagged (length parents) done order →
    least_below (λ i. not (get_or done i true) && list_all (λ p. get_or done p true) (row_at parents i)) (length parents) ≡ least_below
    (may_follow parents order) (length parents)
next_is parents done order flags =
    least_alike (λ i. not (get_or done i true) && list_all (λ p. get_or done p true) (row_at parents i)) (may_follow parents order) (length parents)
    (λ i low. ap₂ (λ a b. not a && b) (flags.same i low)
    (all_alike (λ p. get_or done p true) (λ p. is_among order p || not (nat_lt p (length parents))) (flag_is (length parents) done order flags)
    (row_at parents i)))

-- one class more has a number
pub flagged_more : (n : ℕ) (done : List Bool) (order : List ℕ) (place : ℕ) → place < n → IsFlagged n done order → IsFlagged n (slice_set done place true) (order
    ++ place ∷ [])
flagged_more n done order place low flags = record {
  size = length-set done place true ∙ flags.size;
  same = λ i h.
      let all = sym (list_any-append (nat_eq i) order (place ∷ [])) in
      let a = is_among order i in
      ⊎_elim
      (λ t. ap (λ j. get_or (slice_set done place true) j true) t.1
      ∙ get_or-set_same done place true true (let e : length done ≡ n = flags.size in omega arith)
      ∙ or_true a ∙ ap (λ b. a || (b || false)) (sym t.0) ∙ all)
      (λ t. get_or-set_other done place i true true t.1 ∙ flags.same i h ∙ or_false a ∙ ap (λ b. a || (b || false)) (sym t.0) ∙ all)
      (eqb_tells i place);
}

-- so many classes have a number
pub record IsNumberedSoFar (parents : List (List ℕ)) (done : List Bool) (order : List ℕ) (count : ℕ) : Type 0 where
  pub flags : IsFlagged (length parents) done order
  pub ahead : numbering parents ≡ numbered_on parents order (length parents - count)

pub start : (parents : List (List ℕ)) → IsNumberedSoFar parents (replicate (length parents) false) [] 0
start parents = record {
  flags = record { size = length-replicate (length parents) false; same = λ i h. get_or-replicate (length parents) i false true h };
  ahead = let e : length parents - 0 ≡ length parents = omega arith in rw e refl;
}

within_or : (o : Option ℕ) (b : Bool) (n i : ℕ) → ((j : ℕ) → o ≡ Some j → j < n) → option_or o (cond b (Some n) None) ≡ Some i → i < suc n
within_or None true n i h e = let k : n ≡ i = cc in omega arith
within_or None false n i h e = cc
within_or (Some j) b n i h e = let k : j ≡ i = cc in let low = h j refl in omega arith

pub least_within : (f : ℕ → Bool) (n i : ℕ) → least_below f n ≡ Some i → i < n
least_within f zero i e = cc
least_within f (suc n) i e = within_or (least_below f n) (f n) n i (λ j. least_within f n j) e

module _ (parents : List (List ℕ)) (done : List Bool) (order : List ℕ) (count : ℕ) (so_far : IsNumberedSoFar parents done order count)
    (more : count < length parents) where
  abbrev pub flag_test : ℕ → Bool
  flag_test i = not (get_or done i true) && list_all (λ p. get_or done p true) (row_at parents i)

  next_step : numbering parents ≡ option_map_or (λ i. numbered_on parents (order ++ i ∷ []) (length parents - (count + 1))) (least_below flag_test
      (length parents)) order
  next_step =
      let m : length parents - count ≡ suc (length parents - (count + 1)) = omega arith in
      so_far.ahead ∙ ap (numbered_on parents order) m
      ∙ ap (λ o. option_map_or (λ i. numbered_on parents (order ++ i ∷ []) (length parents - (count + 1))) o order) (sym
      (next_is parents done order so_far.flags))

  -- no class may follow
  pub stuck : least_below flag_test (length parents) ≡ None → order ≡ numbering parents
  stuck e = sym (next_step ∙ ap (λ o. option_map_or (λ i. numbered_on parents (order ++ i ∷ []) (length parents - (count + 1))) o order) e)

  -- the next class gets its number
  pub further : (place : ℕ) → least_below flag_test (length parents) ≡ Some place →
      IsNumberedSoFar parents (slice_set done place true) (order ++ place ∷ []) (count + 1)
  further place e = record {
    flags = flagged_more (length parents) done order place (least_within flag_test (length parents) place e) so_far.flags;
    ahead = next_step ∙ ap (λ o. option_map_or (λ i. numbered_on parents (order ++ i ∷ []) (length parents - (count + 1))) o order) e;
  }

-- each class had its turn
pub finished : (parents : List (List ℕ)) (done : List Bool) (order : List ℕ) (count : ℕ) → IsNumberedSoFar parents done order count
    → length parents ≤ count → order ≡ numbering parents
finished parents done order count so_far all =
    let e : length parents - count ≡ 0 = omega arith in
    sym (so_far.ahead ∙ ap (numbered_on parents order) e)
