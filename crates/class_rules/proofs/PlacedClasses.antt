-- Where the classes of names stand.
use Rattle.std.proofs.Common.{◌≡◌, ℕ, zero, suc, ◌+◌, ◌<◌, Bool, true, false, cond, List, [], ◌∷◌, map, nat_cmp, length, get_or, take, Option, Some, None, Result, Ok, Err, is_some, Ordering, refl, sym, ap, ap₂, ◌∙◌, arith, true≢false}
use Rattle.std.specs.Cmp.Lexicographic.{slice_cmp, texts_ties}
use Rattle.std.specs.FinMap.{nat_cmp-IsAntisymmetric, slice_cmp-IsAntisymmetric}
use Rattle.std.specs.List.{cons_option, filter_map, position_from}
use Rattle.std.specs.Map.{update}
use Rattle.std.specs.Option.{option_or}
use Rattle.std.specs.Prelude.{OnOk}
use Rattle.std.specs.Str.{bytes_eq}
use Rattle.use_orders.proofs.Sets.{equal}
use Rattle.class_decls.specs.Texts.{same_text}
use Rattle.class_decls.proofs.Given.{none_from}

choice : (b : Bool) (n : ℕ) (p q r : Option ℕ) → p ≡ option_or q r → cond b (Some n) p ≡ option_or (cond b (Some n) q) r
choice true n p q r e = refl
choice false n p q r e = e

-- the first place that passes, among one element more
pub position_more : {A : Type 0} (test : A → Bool) (n : ℕ) (xs : List A) (i : ℕ) (x : A) → i < length xs → x ≡ get_or xs i x →
    position_from test n (take (i + 1) xs) ≡ option_or (position_from test n (take i xs)) (cond (test x) (Some (n + i)) None)
position_more test n [] i x h e = absurd (omega arith)
position_more test n (y ∷ ys) zero x h e = let k : n + 0 ≡ n = omega arith in rw (k, e) refl
position_more test n (y ∷ ys) (suc i) x h e =
    let k : suc i + 1 ≡ suc (i + 1) = omega arith in
    let m : n + suc i ≡ (n + 1) + i = omega arith in
    rw (k, m) (choice (test y) n (position_from test (n + 1) (take (i + 1) ys)) (position_from test (n + 1) (take i ys)) (cond (test x) (Some
    ((n + 1) + i)) None)
    (position_more test (n + 1) ys i x (omega arith) e))

or_none : (o : Option ℕ) → o ≡ option_or o None
or_none None = refl
or_none (Some p) = refl

or_known : (o p : Option ℕ) → is_some o ≡ true → o ≡ option_or o p
or_known None p e = absurd (true≢false (sym e))
or_known (Some q) p e = refl

pub same_is : (a b : List ℕ) → same_text a b ≡ true → a ≡ b
same_is a b e = slice_cmp-IsAntisymmetric nat_cmp-IsAntisymmetric a b (equal (slice_cmp nat_cmp a b) (sym (texts_ties a b) ∙ e))

abbrev pub text_cmp : List ℕ → List ℕ → Ordering
text_cmp = slice_cmp nat_cmp

kept_by : (o : Option ℕ) (place : ℕ) (b : Bool) → (b ≡ true → is_some o ≡ true) → o ≡ option_or o (cond b (Some place) None)
kept_by o place true h = or_known o (Some place) (h refl)
kept_by o place false h = or_none o

added_by : (o : Option ℕ) (place : ℕ) (b : Bool) → (b ≡ true → o ≡ None) → cond b (Some place) o ≡ option_or o (cond b (Some place) None)
added_by o place true h = ap (λ p. option_or p (Some place)) (sym (h refl))
added_by o place false h = or_none o

module _ (old : List ℕ → Option ℕ) (text : List ℕ) (place : ℕ) where
  -- a name that is there keeps its place
  pub kept : is_some (old text) ≡ true → (t : List ℕ) → old t ≡ option_or (old t) (cond (same_text text t) (Some place) None)
  kept known t = kept_by (old t) place (same_text text t) (λ e. ap (λ k. is_some (old k)) (sym (same_is text t e)) ∙ known)

  -- a new name gets it
  pub added : (new : List ℕ → Option ℕ) → is_some (old text) ≡ false → ((t : List ℕ) → new t ≡ update bytes_eq old text (Some place) t) →
      (t : List ℕ) → new t ≡ option_or (old t) (cond (same_text text t) (Some place) None)
  added new absent updates t =
      updates t
      ∙ added_by (old t) place (same_text text t) (λ e. none_from (old t) (ap (λ k. is_some (old k)) (sym (same_is text t e)) ∙ absent))

-- what is said only where memory was not wanting
pub on_ok : {A E P Q : Type 0} (r : Result A E) → (P → Q) → OnOk r P → OnOk r Q
on_ok (Ok a) f h = f h
on_ok (Err e) f h = tt

-- two choices that agree give the same
pub choices_alike : {A B : Type 0} (f g : A → Option B) → ((x : A) → f x ≡ g x) → (xs : List A) → filter_map f xs ≡ filter_map g xs
choices_alike f g h [] = refl
choices_alike f g h (x ∷ xs) = ap₂ cons_option (h x) (choices_alike f g h xs)

pub rows_alike : {A C : Type 0} (f g : A → C) → ((x : A) → f x ≡ g x) → (xs : List A) → map f xs ≡ map g xs
rows_alike f g h [] = refl
rows_alike f g h (x ∷ xs) = ap₂ (λ a b. a ∷ b) (h x) (rows_alike f g h xs)

pub default_alike : {A : Type 0} (xs : List A) (i : ℕ) (d e : A) → i < length xs → get_or xs i d ≡ get_or xs i e
default_alike [] i d e h = absurd (omega arith)
default_alike (x ∷ xs) zero d e h = refl
default_alike (x ∷ xs) (suc i) d e h = default_alike xs i d e (omega arith)

-- the same of a list of numbers
pub position_next : (test : ℕ → Bool) (xs : List ℕ) (i : ℕ) → i < length xs →
    position_from test 0 (take (i + 1) xs) ≡ option_or (position_from test 0 (take i xs)) (cond (test (get_or xs i 0)) (Some i) None)
position_next test xs i h =
    let z : 0 + i ≡ i = omega arith in
    rw z at (position_more test 0 xs i (get_or xs i 0) h (default_alike xs i 0 (get_or xs i 0) h))
