-- The first element of which something is given.
use Rattle.std.proofs.Common.{◌≡◌, ℕ, zero, suc, ◌+◌, ◌<◌, true, false, List, [], ◌∷◌, length, get_or, take, Option, Some, None, is_some, refl, sym, ap, ◌∙◌, arith, true≢false}
use Rattle.std.specs.Option.{option_or}
use Rattle.class_decls.specs.Texts.{first_given}

or_none : {B : Type 0} (o p : Option B) → o ≡ None → option_or o p ≡ p
or_none o p e = ap (λ x. option_or x p) e

or_some : {B : Type 0} (o p : Option B) → is_some o ≡ true → option_or o p ≡ o
or_some None p e = absurd (true≢false (sym e))
or_some (Some b) p e = refl

pub none_from : {B : Type 0} (o : Option B) → is_some o ≡ false → o ≡ None
none_from None e = refl
none_from (Some b) e = absurd (true≢false e)

none_left : {B : Type 0} (o p : Option B) → option_or o p ≡ None → o ≡ None
none_left None p e = refl
none_left (Some b) p e = e

none_right : {B : Type 0} (o p : Option B) → option_or o p ≡ None → p ≡ None
none_right None p e = e
none_right (Some b) p e = cc

module _ {A B : Type 0} (f : A → Option B) where
  -- nothing is given of one element more
  pub given_none : (xs : List A) (i : ℕ) (x : A) → i < length xs → x ≡ get_or xs i x → first_given f (take i xs) ≡ None → f x ≡ None
      → first_given f (take (i + 1) xs) ≡ None
  given_none [] i x h e before here = absurd (omega arith)
  given_none (y ∷ ys) zero x h e before here = or_none (f y) None (ap f (sym e) ∙ here)
  given_none (y ∷ ys) (suc i) x h e before here =
      let k : suc i + 1 ≡ suc (i + 1) = omega arith in
      rw k (or_none (f y) (first_given f (take (i + 1) ys)) (none_left (f y) (first_given f (take i ys)) before)
      ∙ given_none ys i x (omega arith) e (none_right (f y) (first_given f (take i ys)) before) here)

  -- what is given of the first
  pub given_at : (xs : List A) (i : ℕ) (x : A) → i < length xs → x ≡ get_or xs i x → first_given f (take i xs) ≡ None → is_some (f x) ≡ true
      → first_given f xs ≡ f x
  given_at [] i x h e before here = absurd (omega arith)
  given_at (y ∷ ys) zero x h e before here = rw (← e) (or_some (f x) (first_given f ys) here)
  given_at (y ∷ ys) (suc i) x h e before here =
      or_none (f y) (first_given f ys) (none_left (f y) (first_given f (take i ys)) before)
      ∙ given_at ys i x (omega arith) e (none_right (f y) (first_given f (take i ys)) before) here
