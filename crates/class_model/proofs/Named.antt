-- What names stand for, after a change.
use Rattle.std.proofs.Common.{◌≡◌, ℕ, zero, suc, ◌+◌, ◌<◌, Bool, true, false, ◌&&◌, cond, List, [], ◌∷◌, nat_cmp, length, get_or, take, slice_get, Option, Some, None, is_some, refl, sym, ap, ◌∙◌, arith, true≢false}
use Rattle.std.specs.HashMap.{HashMap, get_by_text}
use Rattle.std.specs.Cmp.Lexicographic.{slice_cmp, texts_ties}
use Rattle.std.specs.declared.string.String.{String}
use Rattle.std.specs.FinMap.{nat_cmp-IsAntisymmetric, slice_cmp-IsAntisymmetric}
use Rattle.std.specs.List.{position_from}
use Rattle.std.specs.Option.{option_and_then, option_or}
use Rattle.use_orders.proofs.Sets.{equal}
use Rattle.class_decls.specs.Texts.{first_numbered, same_text}
use Rattle.class_model.specs.declared.object_model.Enumeration.{Enumeration}
use Rattle.class_model.specs.declared.object_model.ObjectModel.{ObjectModel}
use Rattle.class_model.specs.Features.{literal, literal_in}
use Rattle.class_model.specs.Indexes.{AreLiteralTables, IsLiteralTable}

pub none_from : {B : Type 0} (o : Option B) → is_some o ≡ false → o ≡ None
none_from None e = refl
none_from (Some b) e = absurd (true≢false e)

pub or_none : {B : Type 0} (o : Option B) → o ≡ option_or o None
or_none None = refl
or_none (Some p) = refl

or_known : {B : Type 0} (o p : Option B) → is_some o ≡ true → o ≡ option_or o p
or_known None p e = absurd (true≢false (sym e))
or_known (Some q) p e = refl

pub or_both : {B : Type 0} (o p q : Option B) → option_or (option_or o p) q ≡ option_or o (option_or p q)
or_both None p q = refl
or_both (Some x) p q = refl

pub same_is : (a b : List ℕ) → same_text a b ≡ true → a ≡ b
same_is a b e = slice_cmp-IsAntisymmetric nat_cmp-IsAntisymmetric a b (equal (slice_cmp nat_cmp a b) (sym (texts_ties a b) ∙ e))

kept_by : {B : Type 0} (o : Option B) (v : B) (b : Bool) → (b ≡ true → is_some o ≡ true) → o ≡ option_or o (cond b (Some v) None)
kept_by o v true h = or_known o (Some v) (h refl)
kept_by o v false h = or_none o

added_by : {B : Type 0} (o : Option B) (v : B) (b : Bool) → (b ≡ true → o ≡ None) → cond b (Some v) o ≡ option_or o (cond b (Some v) None)
added_by o v true h = ap (λ p. option_or p (Some v)) (sym (h refl))
added_by o v false h = or_none o

module _ {V A S : Type 0} (old : HashMap (String A) V S) (name : List ℕ) (v : V) where
  -- a name that stands for something keeps it
  pub kept : is_some (get_by_text old name) ≡ true → (t : List ℕ) → get_by_text old t ≡ option_or (get_by_text old t) (cond (same_text name t) (Some v) None)
  kept known t = kept_by (get_by_text old t) v (same_text name t) (λ e. ap (λ k. is_some (get_by_text old k)) (sym (same_is name t e)) ∙ known)

  -- a new name gets a value
  pub added : (new : HashMap (String A) V S) → is_some (get_by_text old name) ≡ false →
      ((t : List ℕ) → get_by_text new t ≡ cond (same_text name t) (Some v) (get_by_text old t)) →
      (t : List ℕ) → get_by_text new t ≡ option_or (get_by_text old t) (cond (same_text name t) (Some v) None)
  added new absent put t =
      put t ∙ added_by (get_by_text old t) v (same_text name t)
      (λ e. none_from (get_by_text old t) (ap (λ k. is_some (get_by_text old k)) (sym (same_is name t e)) ∙ absent))

found : (b : Bool) (n : ℕ) (p q r : Option ℕ) → p ≡ option_or q r → cond b (Some n) p ≡ option_or (cond b (Some n) q) r
found true n p q r e = refl
found false n p q r e = e

-- the first place that passes, among one element more
pub position_more : {A : Type 0} (test : A → Bool) (n : ℕ) (xs : List A) (i : ℕ) (x : A) → i < length xs → x ≡ get_or xs i x →
    position_from test n (take (i + 1) xs) ≡ option_or (position_from test n (take i xs)) (cond (test x) (Some (n + i)) None)
position_more test n [] i x h e = absurd (omega arith)
position_more test n (y ∷ ys) zero x h e = let k : n + 0 ≡ n = omega arith in rw (k, e) refl
position_more test n (y ∷ ys) (suc i) x h e =
    let k : suc i + 1 ≡ suc (i + 1) = omega arith in
    let m : n + suc i ≡ (n + 1) + i = omega arith in
    rw (k, m) (found (test y) n (position_from test (n + 1) (take (i + 1) ys)) (position_from test (n + 1) (take i ys))
    (cond (test x) (Some ((n + 1) + i)) None)
    (position_more test (n + 1) ys i x (omega arith) e))

-- the same from nought on
pub place_more : {A : Type 0} (test : A → Bool) (xs : List A) (i : ℕ) (x : A) → i < length xs → x ≡ get_or xs i x →
    position_from test 0 (take (i + 1) xs) ≡ option_or (position_from test 0 (take i xs)) (cond (test x) (Some i) None)
place_more test xs i x h e =
    let z : 0 + i ≡ i = omega arith in
    rw z at (position_more test 0 xs i x h e)

or_by : {B : Type 0} (o p q r : Option B) → p ≡ option_or q r → option_or o p ≡ option_or (option_or o q) r
or_by None p q r e = e
or_by (Some x) p q r e = refl

-- the first thing that is given, among one element more
pub first_more : {A B : Type 0} (f : ℕ → A → Option B) (n : ℕ) (xs : List A) (i : ℕ) (x : A) → i < length xs → x ≡ get_or xs i x →
    first_numbered f n (take (i + 1) xs) ≡ option_or (first_numbered f n (take i xs)) (f (n + i) x)
first_more f n [] i x h e = absurd (omega arith)
first_more f n (y ∷ ys) zero x h e = let k : n + 0 ≡ n = omega arith in rw (k, e) (sym (or_none (f n y)))
first_more f n (y ∷ ys) (suc i) x h e =
    let k : suc i + 1 ≡ suc (i + 1) = omega arith in
    let m : n + suc i ≡ (n + 1) + i = omega arith in
    rw (k, m) (or_by (f n y) (first_numbered f (n + 1) (take (i + 1) ys)) (first_numbered f (n + 1) (take i ys)) (f ((n + 1) + i) x)
    (first_more f (n + 1) ys i x (omega arith) e))

pub first_next : {A B : Type 0} (f : ℕ → A → Option B) (xs : List A) (i : ℕ) (x : A) → i < length xs → x ≡ get_or xs i x →
    first_numbered f 0 (take (i + 1) xs) ≡ option_or (first_numbered f 0 (take i xs)) (f i x)
first_next f xs i x h e =
    let z : 0 + i ≡ i = omega arith in
    rw z at (first_more f 0 xs i x h e)

found_in : {A S : Type 0} (enums : List Enumeration) (e : ℕ) (name : List ℕ) → e < length enums → (table : HashMap (String A) ℕ S) →
    ((x : Enumeration) → IsLiteralTable (get_or enums e x) table) → get_by_text table name ≡ option_and_then (λ enumeration. literal_in enumeration name)
    (slice_get enums e)
found_in [] e name h table is = absurd (omega arith)
found_in (x ∷ xs) zero name h table is = is x name
found_in (x ∷ xs) (suc e) name h table is = found_in xs e name (omega arith) table is

-- the literal that the table of its enumeration gives
pub literal_is : {A S : Type 0} (m : ObjectModel) (e : ℕ) (name : List ℕ) → e < length m.enums → (tables : List (HashMap (String A) ℕ S))
    (d : HashMap (String A) ℕ S) →
    AreLiteralTables m.enums tables → get_by_text (get_or tables e d) name ≡ literal m e name
literal_is m e name h tables d all = found_in m.enums e name h (get_or tables e d) (λ x. all.1 e x d h)
