-- The literals that one enumeration alone has.
use Rattle.std.proofs.Common.{◌≡◌, ℕ, zero, suc, ◌+◌, ◌<◌, Bool, true, false, not, ◌&&◌, cond, nat_eq, List, [], ◌∷◌, ◌++◌, length, get_or, take, Option, Some, None, is_some, refl, sym, ap, ◌∙◌, subst, arith}
use Rattle.std.specs.HashMap.{HashMap, get_by_text}
use Rattle.std.specs.declared.string.String.{String}
use Rattle.std.specs.List.{cons_option, position_from}
use Rattle.std.specs.Option.{option_and_then, option_map_or, option_or}
use Rattle.std.proofs.lemmas.Bool.Decides.{nat_tests}
use Rattle.class_decls.specs.Texts.{same_text}
use Rattle.class_model.specs.declared.object_model.Enumeration.{Enumeration}
use Rattle.class_model.specs.Features.{literal_in, literals_in, only}
use Rattle.class_model.specs.Indexes.{AreLiteralTables, IsLiteralTable, one_more, one_or_several}
use Rattle.class_model.proofs.Listed.{chosen_more, default_alike, each_more, size_more}
use Rattle.class_model.proofs.Named.{same_is}

pub more_none : {A : Type 0} (o : Option (Option A)) → one_more o None ≡ o
more_none None = refl
more_none (Some x) = refl

only_by : {A : Type 0} (o p : Option (Option A)) (x : A) (s : Bool) → (s ≡ true → p ≡ o) →
    cond s (Some (cond (is_some p) None (Some x))) o ≡ one_more o (cond s (Some x) None)
only_by o p x false e = sym (more_none o)
only_by None p x true e = ap (λ q. Some (cond (is_some q) None (Some x))) (e refl)
only_by (Some y) p x true e = ap (λ q. Some (cond (is_some q) None (Some x))) (e refl)

module _ {V A S : Type 0} (old : HashMap (String A) (Option V) S) (name : List ℕ) (x : V) where
  -- a name that stands for something stands for nothing from now on
  pub once_more : (new : HashMap (String A) (Option V) S) →
      ((t : List ℕ) → get_by_text new t ≡ cond (same_text name t) (Some (cond (is_some (get_by_text old name)) None (Some x))) (get_by_text old t)) →
      (t : List ℕ) → get_by_text new t ≡ one_more (get_by_text old t) (cond (same_text name t) (Some x) None)
  once_more new put t = put t ∙ only_by (get_by_text old t) (get_by_text old name) x (same_text name t) (λ e. ap (get_by_text old) (same_is name t e))

first_by : (b : Bool) (n i : ℕ) (p q : Option ℕ) → option_map_or (nat_eq (n + suc i)) p false ≡ not (is_some q) →
    option_map_or (nat_eq (n + suc i)) (cond b (Some n) p) false ≡ not (is_some (cond b (Some n) q))
first_by true n i p q e = grind (arith, nat_tests)
first_by false n i p q e = e

-- whether an element is the first that passes
first_from : {A : Type 0} (test : A → Bool) (n : ℕ) (xs : List A) (i : ℕ) (x : A) → i < length xs → x ≡ get_or xs i x → test x ≡ true →
    option_map_or (nat_eq (n + i)) (position_from test n xs) false ≡ not (is_some (position_from test n (take i xs)))
first_from test n [] i x h e f = absurd (omega arith)
first_from test n (y ∷ ys) zero x h e f = ap (λ b. option_map_or (nat_eq (n + 0)) (cond b (Some n) (position_from test (n + 1) ys)) false)
    (ap test (sym e) ∙ f) ∙ grind (arith, nat_tests)
first_from test n (y ∷ ys) (suc i) x h e f =
    let m : n + suc i ≡ (n + 1) + i = omega arith in
    first_by (test y) n i (position_from test (n + 1) ys) (position_from test (n + 1) (take i ys))
    (ap (λ k. option_map_or (nat_eq k) (position_from test (n + 1) ys) false) m ∙ first_from test (n + 1) ys i x (omega arith) e f)

pub first_is : {A : Type 0} (test : A → Bool) (xs : List A) (i : ℕ) (x : A) → i < length xs → x ≡ get_or xs i x → test x ≡ true →
    option_map_or (nat_eq i) (position_from test 0 xs) false ≡ not (is_some (position_from test 0 (take i xs)))
first_is test xs i x h e f = let z : 0 + i ≡ i = omega arith in rw z at (first_from test 0 xs i x h e f)

and_false : (a : Bool) → (a && false) ≡ false
and_false true = refl
and_false false = refl

more_by : {V : Type 0} (o : Option (Option V)) (f : ℕ → V) (p : Option ℕ) (i : ℕ) (h s : Bool) → (s ≡ true → h ≡ not (is_some p)) →
    one_more (one_more o (option_and_then (λ l. Some (f l)) p)) (cond (h && s) (Some (f i)) None) ≡ one_more o
    (option_and_then (λ l. Some (f l)) (option_or p (cond s (Some i) None)))
more_by o f None i h false e = ap (λ b. one_more (one_more o None) (cond b (Some (f i)) None)) (and_false h) ∙ more_none (one_more o None)
more_by o f (Some q) i h false e = ap (λ b. one_more (one_more o (Some (f q))) (cond b (Some (f i)) None)) (and_false h) ∙ more_none (one_more o (Some (f q)))
more_by o f None i h true e = ap (λ b. one_more (one_more o None) (cond (b && true) (Some (f i)) None)) (e refl) ∙ ap (λ p. one_more p (Some (f i)))
    (more_none o)
more_by o f (Some q) i h true e = ap (λ b. one_more (one_more o (Some (f q))) (cond (b && true) (Some (f i)) None)) (e refl) ∙ more_none
    (one_more o (Some (f q)))

-- one literal more of an enumeration
pub literal_more : {V A S : Type 0} (o : Option (Option V)) (f : ℕ → V) (table : HashMap (String A) ℕ S) (xs : List (List ℕ)) (i : ℕ) (x t : List ℕ) →
    i < length xs → x ≡ get_or xs i x → ((t : List ℕ) → get_by_text table t ≡ position_from (λ y. same_text y t) 0 xs) →
    one_more (one_more o (option_and_then (λ l. Some (f l)) (position_from (λ y. same_text y t) 0 (take i xs))))
    (cond (option_map_or (nat_eq i) (get_by_text table x) false && same_text x t) (Some (f i)) None)
    ≡ one_more o (option_and_then (λ l. Some (f l)) (option_or (position_from (λ y. same_text y t) 0 (take i xs)) (cond (same_text x t) (Some i) None)))
literal_more o f table xs i x t h e known =
    more_by o f (position_from (λ y. same_text y t) 0 (take i xs)) i (option_map_or (nat_eq i) (get_by_text table x) false) (same_text x t)
    (λ s. ap (λ k. option_map_or (nat_eq i) (get_by_text table k) false) (same_is x t s) ∙ ap (λ o. option_map_or (nat_eq i) o false) (known t)
    ∙ first_is (λ y. same_text y t) xs i x h e s)

-- one enumeration more
pub several_more : {A : Type 0} (xs : List A) (o : Option A) → one_or_several (xs ++ cons_option o []) ≡ one_more (one_or_several xs) o
several_more [] None = refl
several_more [] (Some x) = refl
several_more (y ∷ []) None = refl
several_more (y ∷ []) (Some x) = refl
several_more (y ∷ z ∷ rest) None = refl
several_more (y ∷ z ∷ rest) (Some x) = refl

pub only_found : {A : Type 0} (xs : List A) (o : Option A) → one_or_several xs ≡ Some o → o ≡ only xs
only_found [] o e = cc
only_found (x ∷ []) o e = cc
only_found (x ∷ y ∷ rest) o e = cc

pub only_none : {A : Type 0} (xs : List A) → one_or_several xs ≡ None → None ≡ only xs
only_none [] e = refl
only_none (x ∷ []) e = cc
only_none (x ∷ y ∷ rest) e = cc

pub several_next : (enums : List Enumeration) (i : ℕ) (e : Enumeration) (t : List ℕ) → i < length enums → e ≡ get_or enums i e →
    one_more (one_or_several (literals_in (take i enums) t)) (option_and_then (λ l. Some (i, l)) (literal_in e t)) ≡ one_or_several
    (literals_in (take (i + 1) enums) t)
several_next enums i e t h is =
    let z : 0 + i ≡ i = omega arith in
    sym (several_more (literals_in (take i enums) t) (option_and_then (λ l. Some (i, l)) (literal_in e t)))
    ∙ ap one_or_several (sym (rw z at (chosen_more {B = ℕ × ℕ} (λ p. option_and_then (λ l. Some (p.0, l)) (literal_in p.1 t)) 0 enums i e h is)))

-- the first enumerations have their tables
pub record AreTablesTo {A S : Type 0} (enums : List Enumeration) (tables : List (HashMap (String A) ℕ S)) (n : ℕ) : Type 0 where
  pub size : length tables ≡ n
  pub same : (i : ℕ) (d : HashMap (String A) ℕ S) → i < n → (e : Enumeration) → IsLiteralTable (get_or enums i e) (get_or tables i d)

module _ {A S : Type 0} (enums : List Enumeration) where
  pub no_tables : AreTablesTo {A = A} {S = S} enums [] 0
  no_tables = record { size = refl; same = λ i d h e. absurd (omega arith) }

  pub one_table : (tables : List (HashMap (String A) ℕ S)) (n : ℕ) (table : HashMap (String A) ℕ S) (e : Enumeration) →
      AreTablesTo enums tables n → n < length enums → e ≡ get_or enums n e → IsLiteralTable e table → AreTablesTo enums (tables ++ table ∷ []) (n + 1)
  one_table tables n table e so_far h is here = record {
    size = size_more tables n table so_far.size;
    same = each_more (λ i t. (d : Enumeration) → IsLiteralTable (get_or enums i d) t) tables n table so_far.size so_far.same
        (λ d. subst (λ x. IsLiteralTable x table) (is ∙ default_alike enums n e d h) here);
  }

  pub all_tables : (tables : List (HashMap (String A) ℕ S)) (n : ℕ) → AreTablesTo enums tables n → n ≡ length enums → AreLiteralTables enums tables
  all_tables tables n so_far e = (so_far.size ∙ e, λ i x d h. so_far.same i d (omega arith) x)
