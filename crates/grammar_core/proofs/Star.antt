-- More times than there are tokens left are enough.
use Rattle.std.proofs.Common.{◌≡◌, ℕ, ◌-◌, ◌<◌, Bool, true, false, cond, List, [], ◌∷◌, length, None, slice_get, zero, suc, refl, sym, ◌∙◌, arith, subst, ⊎_elim}
use Rattle.std.proofs.lemmas.Option.{slice_get_cases}
use Rattle.grammar_core.specs.declared.table.Table.{Table}
use Rattle.grammar_core.specs.Trees.{ParseTree}
use Rattle.grammar_core.specs.Empty.{MayBeEmpty}
use Rattle.grammar_core.specs.Derives.{begins}
use Rattle.grammar_core.specs.Answers.{Answer, Reading, then_at, again, whole}
use Rattle.grammar_core.proofs.Moves.{Moved, MovedBy, whole_moved}

none_begins : (ks : List ℕ) (at : ℕ) (firsts : List ℕ) → slice_get ks at ≡ None → begins ks at firsts ≡ false
none_begins ks at [] e = refl
none_begins ks at (k ∷ more) e = rw e (none_begins ks at more e)

pub begins_inside : (ks : List ℕ) (at : ℕ) (firsts : List ℕ) → begins ks at firsts ≡ true → at < length ks
begins_inside ks at firsts h = ⊎_elim (λ some. some.1) (λ past. absurd (let e = none_begins ks at firsts past.1 in cc)) (slice_get_cases ks at).1

-- what may not derive nothing moves on
pub moves_on : (E : Type 0) (at to : ℕ) → (E → ⊥) → Moved E at to → at < to
moves_on E at to never m = ⊎_elim (λ l. l) (λ e. absurd (never e)) m.on

then_enough : (E : Type 0) (never : E → ⊥) (a : Answer) (f f' : Reading) (at : ℕ) → MovedBy E at a → ((to : ℕ) (more : List ParseTree) (n : ℕ) → at < to
    → f to more n ≡ f' to more n) → then_at a f ≡ then_at a f'
then_enough E never (Answer.ends to done n) f f' at m h = h to done n (moves_on E at to never m)
then_enough E never (Answer.stuck x n) f f' at m h = refl
then_enough E never (Answer.deep x n) f f' at m h = refl
then_enough E never (Answer.spent n) f f' at m h = refl

cond_same : {A : Type 0} (b : Bool) (x y z : A) → (b ≡ true → x ≡ y) → cond b x z ≡ cond b y z
cond_same true x y z h = h refl
cond_same false x y z h = refl

module _ (ks firsts : List ℕ) (one : Reading) (E : Type 0) (never : E → ⊥) (moves : (at : ℕ) (done : List ParseTree) (n : ℕ)
    → MovedBy E at (one at done n)) where
  pub enough : (k m at : ℕ) (done : List ParseTree) (n : ℕ) → length ks - at < k → length ks - at < m
      → again ks firsts one k at done n ≡ again ks firsts one m at done n
  enough zero m at done n a b = absurd (omega arith)
  enough (suc k) zero at done n a b = absurd (omega arith)
  enough (suc k) (suc m) at done n a b =
      cond_same (begins ks at firsts) _ _ _ (λ e. let inside = begins_inside ks at firsts e
      in then_enough E never (one at done n) _ _ at (moves at done n) (λ to more i further. enough k m to more (suc i) (omega (arith, inside, further))
      (omega (arith, inside, further))))

  -- one time more
  pub once_more : (at to : ℕ) (done more : List ParseTree) (n i : ℕ) → begins ks at firsts ≡ true → one at done n ≡ Answer.ends to more i
      → again ks firsts one (suc (length ks - to)) to more (suc i) ≡ again ks firsts one (suc (length ks - at)) at done n
  once_more at to done more n i b e =
      let m : Moved E at to = subst (λ (a : Answer). MovedBy E at a) e (moves at done n) in
      let further : at < to = moves_on E at to never m in
      let inside = begins_inside ks at firsts b in
      let step : again ks firsts one (suc (length ks - at)) at done n ≡ again ks firsts one (length ks - at) to more (suc i) = rw (b, e) refl in
      enough (suc (length ks - to)) (length ks - at) to more (suc i) (omega arith) (omega arith) ∙ sym step

pub star_more : (g : Table) (ks firsts : List ℕ) (q level : ℕ) → (MayBeEmpty g q → ⊥) → (at to : ℕ) (done more : List ParseTree) (n i : ℕ)
    → begins ks at firsts ≡ true → whole g ks q level at done n ≡ Answer.ends to more i → again ks firsts (whole g ks q level) (suc (length ks - to)) to more
    (suc i) ≡ again ks firsts (whole g ks q level) (suc (length ks - at)) at done n
star_more g ks firsts q level never = once_more ks firsts (whole g ks q level) (MayBeEmpty g q) never (whole_moved g ks q level)
