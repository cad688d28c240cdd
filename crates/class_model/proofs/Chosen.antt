-- Which declaration overrides all others of its name.
use Rattle.std.proofs.Common.{◌≡◌, ℕ, ◌<◌, ◌≤◌, Bool, true, false, not, ◌&&◌, cond, List, [], ◌∷◌, ◌++◌, length, get_or, take, fold, find, slice_get, Option, Some, None, refl, sym, ap, ◌∙◌, arith, zero, suc}
use Rattle.std.specs.List.{list_all}
use Rattle.std.specs.Option.{option_and_then, option_map_or}
use Rattle.std.proofs.Math.Path.{fun_ext}
use Rattle.std.proofs.lemmas.List.Folds.{list_all-append}
use Rattle.std.proofs.lemmas.List.Sums.{fold-append}
use Rattle.class_model.specs.declared.object_model.Operation.{Operation}
use Rattle.class_model.specs.Features.{chosen_by, class_at}
use Rattle.class_model.specs.Indexes.{greater_by, latest}
use Rattle.class_model.proofs.Greatest.{greatest_found, greatest_more}

-- one declaration more, where it is of the name
pub latest_more : (ops : List Operation) (os : List ℕ) (b : Bool) (i : ℕ) → cond b (Some (greater_by (class_at ops) (latest ops os) i)) (latest ops os)
    ≡ latest ops (os ++ cond b (i ∷ []) [])
latest_more ops os b i = greatest_more (class_at ops) os b i

pub chosen_is : (r : ℕ → ℕ → Bool) → ((a b : ℕ) → r a b ≡ true → b ≤ a) → (ops : List Operation) (os : List ℕ) →
    option_and_then (λ best. cond (list_all (λ p. r (class_at ops best) (class_at ops p)) os) (Some best) None) (latest ops os) ≡ chosen_by r ops os
chosen_is r low ops os =
    greatest_found (class_at ops) r low os

pub class_is : (ops : List Operation) (i : ℕ) (op : Operation) → i < length ops → op ≡ get_or ops i op → class_at ops i ≡ op.class
class_is [] i op h e = absurd (omega arith)
class_is (o ∷ os) zero op h e = ap (λ x. x.class) (sym e)
class_is (o ∷ os) (suc i) op h e = class_is os i op (omega arith) e

cond_none : (o : Option ℕ) (s : Bool) → cond s o o ≡ o
cond_none o true = refl
cond_none o false = refl

and_false : (a : Bool) → (a && false) ≡ false
and_false true = refl
and_false false = refl

and_true : (a : Bool) → (a && true) ≡ a
and_true true = refl
and_true false = refl

kept_true : (v h s : Bool) (b : ℕ) → cond ((h && not v) && s) None (Some b) ≡ cond (cond (h && s) (v && true) true) (Some b) None
kept_true true true true b = refl
kept_true true true false b = refl
kept_true true false true b = refl
kept_true true false false b = refl
kept_true false true true b = refl
kept_true false true false b = refl
kept_true false false true b = refl
kept_true false false false b = refl

kept_if : (A : Bool) (u : ℕ → Bool) (h s : Bool) (b : ℕ) →
    cond ((h && option_map_or (λ x. not (u x)) (cond A (Some b) None) false) && s) None (cond A (Some b) None) ≡ cond (A && cond (h && s) (u b && true) true)
    (Some b) None
kept_if true u h s b = kept_true (u b) h s b
kept_if false u h s b = cond_none None ((h && false) && s)

-- one declaration more that the one of its name has to override
keep_step : (o : Option ℕ) (A u : ℕ → Bool) (h s : Bool) (found : Option ℕ) → (s ≡ true → found ≡ option_and_then (λ b. cond (A b) (Some b) None) o) →
    cond ((h && option_map_or (λ b. not (u b)) found false) && s) None (option_and_then (λ b. cond (A b) (Some b) None) o)
    ≡ option_and_then (λ b. cond (A b && cond (h && s) (u b && true) true) (Some b) None) o
keep_step None A u h s found e = cond_none None ((h && option_map_or (λ b. not (u b)) found false) && s)
keep_step (Some b) A u h true found e =
    ap (λ f. cond ((h && option_map_or (λ x. not (u x)) f false) && true) None (cond (A b) (Some b) None)) (e refl) ∙ kept_if (A b) u h true b
keep_step (Some b) A u h false found e =
    ap (λ x. cond x None (cond (A b) (Some b) None)) (and_false (h && option_map_or (λ x. not (u x)) found false))
    ∙ ap (λ x. cond x (Some b) None) (sym (and_true (A b)))
    ∙ ap (λ x. cond (A b && cond x (u b && true) true) (Some b) None) (sym (and_false h))

all_if : (test : ℕ → Bool) (d : Bool) (i : ℕ) → list_all test (cond d (i ∷ []) []) ≡ cond d (test i && true) true
all_if test true i = refl
all_if test false i = refl

all_more : (test : ℕ → Bool) (os : List ℕ) (d : Bool) (i : ℕ) → list_all test (os ++ cond d (i ∷ []) []) ≡ (list_all test os && cond d (test i && true) true)
all_more test os d i = list_all-append test os (cond d (i ∷ []) []) ∙ ap (λ b. list_all test os && b) (all_if test d i)

-- the declarations that override all others so far
abbrev pub overriding : (ℕ → ℕ → Bool) → List Operation → List ℕ → Option ℕ → Option ℕ
overriding r ops os o = option_and_then (λ best. cond (list_all (λ p. r (class_at ops best) (class_at ops p)) os) (Some best) None) o

pub overriding_more : (r : ℕ → ℕ → Bool) (ops : List Operation) (os : List ℕ) (o : Option ℕ) (h s : Bool) (i : ℕ) (found : Option ℕ) →
    (s ≡ true → found ≡ overriding r ops os o) →
    cond ((h && option_map_or (λ b. not (r (class_at ops b) (class_at ops i))) found false) && s) None (overriding r ops os o) ≡ overriding r ops
    (os ++ cond (h && s) (i ∷ []) []) o
overriding_more r ops os o h s i found e =
    keep_step o (λ b. list_all (λ p. r (class_at ops b) (class_at ops p)) os) (λ b. r (class_at ops b) (class_at ops i)) h s found e
    ∙ ap (λ f. option_and_then (λ b. cond (f b) (Some b) None) o) (fun_ext (λ b. sym (all_more (λ p. r (class_at ops b) (class_at ops p)) os (h && s) i)))

nothing_yet : (o : Option ℕ) → o ≡ option_and_then (λ b. Some b) o
nothing_yet None = refl
nothing_yet (Some b) = refl

pub overriding_none : (r : ℕ → ℕ → Bool) (ops : List Operation) (o : Option ℕ) → o ≡ overriding r ops [] o
overriding_none r ops o = nothing_yet o
