-- Any two bounds on the productions that are open give the same answer, where both are more than a fit table can have open.
use Rattle.std.proofs.Common.{◌≡◌, ℕ, ◌+◌, ◌-◌, ◌*◌, ◌<◌, ◌≤◌, Bool, true, false, cond, nat_lt, List, [], ◌∷◌, length, Option, Some, None, slice_get, zero, suc, refl, ap, ◌∙◌, arith, suc-mul, ltb-true}
use Rattle.std.proofs.Math.Nat.{mul-le-mul_right}
use Rattle.grammar_core.specs.declared.table.Table.{Table}
use Rattle.grammar_core.specs.declared.table.Rule.{Rule}
use Rattle.grammar_core.specs.declared.table.Prod.{Prod}
use Rattle.grammar_core.specs.declared.table.Prod.TheVariants.{Tok, Call, Seq, Case, Star}
use Rattle.grammar_core.specs.Tables.{rule_at}
use Rattle.grammar_core.specs.Trees.{ParseTree}
use Rattle.grammar_core.specs.Unfit.{IsFit}
use Rattle.grammar_core.specs.Derives.{branch_of, max_level}
use Rattle.grammar_core.specs.Answers.{Answer, Reading, then_at, in_turn, chosen, again, close, of_rule, of_production, answer, most_open, whole}
use Rattle.grammar_core.proofs.Ranks.{rank, rank_low}
use Rattle.grammar_core.proofs.Fits.{IsBelow, AllBelow, OtherBelow, NextFits, RuleFits, Fits, branch_below, fits_at}

-- falls from a production to each that it reads next
abbrev pub height : Table → ℕ → ℕ → ℕ
height g p level = (max_level - level) * (length g.prods + 1) + rank g p

pub then_same : (a : Answer) (f f' : Reading) → ((to : ℕ) (more : List ParseTree) (n : ℕ) → f to more n ≡ f' to more n) → then_at a f ≡ then_at a f'
then_same (Answer.ends to done n) f f' h = h to done n
then_same (Answer.stuck at n) f f' h = refl
then_same (Answer.deep at n) f f' h = refl
then_same (Answer.spent n) f f' h = refl

next_level : (m s level : ℕ) → level < max_level → s ≡ (max_level - level) → s * m ≡ (max_level - (level + 1)) * m + m
next_level m s level low e = let f : s ≡ suc (max_level - (level + 1)) = omega (arith) in rw f (suc-mul (max_level - (level + 1)) m)

gated : {A : Type 0} (b : Bool) (x y z : A) → (b ≡ true → x ≡ y) → cond b x z ≡ cond b y z
gated true x y z h = h refl
gated false x y z h = refl

pub below : (g : Table) (p q level : ℕ) → IsBelow g p q → height g q level < height g p level
below g p q level b = omega arith

pub nested : (g : Table) (p q level : ℕ) → level < max_level → height g q (level + 1) < height g p level
nested g p q level low = let e = next_level (length g.prods + 1) (max_level - level) level low refl in let f : rank g q ≤ length g.prods = rank_low g q
    in omega arith

pub height_low : (g : Table) (p level : ℕ) → height g p level < most_open g
height_low g p level =
    let a : (max_level - level) * (length g.prods + 1) ≤ max_level * (length g.prods + 1) = mul-le-mul_right (length g.prods + 1) (omega arith) in
    let b : most_open g ≡ max_level * (length g.prods + 1) + (length g.prods + 1) = suc-mul max_level (length g.prods + 1) in
    let c : rank g p ≤ length g.prods = rank_low g p in
    omega arith

module _ (g : Table) (ks : List ℕ) (one other : ℕ → ℕ → Reading) (p level : ℕ) (same : (q l : ℕ) → q < length g.prods → height g q l < height g p level
    → one q l ≡ other q l) where
  one_same : (q : ℕ) → IsBelow g p q → one q level ≡ other q level
  one_same q b = same q level b.inside (below g p q level b)

  turn_same : (ps : List ℕ) → AllBelow g p ps → (at : ℕ) (done : List ParseTree) (n : ℕ) → in_turn (λ q. one q level) ps at done n ≡ in_turn
      (λ q. other q level) ps at done n
  turn_same [] b at done n = refl
  turn_same (q ∷ qs) b at done n =
      ap (λ (r : Reading). then_at (r at done n) (λ to more m. in_turn (λ x. one x level) qs to more m)) (one_same q b.0)
      ∙ then_same (other q level at done n) _ _ (turn_same qs b.1)

  chosen_same : (q : Option ℕ) → OtherBelow g p q → (at : ℕ) (done : List ParseTree) (n : ℕ)
      → chosen (λ q. one q level) q at done n ≡ chosen (λ q. other q level) q at done n
  chosen_same None b at done n = refl
  chosen_same (Some q) b at done n = ap (λ (r : Reading). r at done n) (one_same q b)

  next_same : (r q at : ℕ) (done : List ParseTree) (n : ℕ) (nests : Bool) → NextFits g p q nests
      → cond nests (cond (nat_lt level max_level) (close r done (one q (level + 1) at done n)) (Answer.deep at n)) (close r done
      (one q level at done n)) ≡ cond nests (cond (nat_lt level max_level) (close r done (other q (level + 1) at done n)) (Answer.deep at n)) (close r done
      (other q level at done n))
  next_same r q at done n false b = ap (λ (f : Reading). close r done (f at done n)) (one_same q b)
  next_same r q at done n true b =
      gated (nat_lt level max_level) (close r done (one q (level + 1) at done n)) (close r done (other q (level + 1) at done n)) (Answer.deep at n)
      (λ e. ap (λ (f : Reading). close r done (f at done n)) (same q (level + 1) b (nested g p q level (ltb-true level max_level e))))

  rule_same : (r : ℕ) (rule : Option Rule) → RuleFits g p rule → (at : ℕ) (done : List ParseTree) (n : ℕ)
      → of_rule one r level rule at done n ≡ of_rule other r level rule at done n
  rule_same r None b at done n = refl
  rule_same r (Some rule) b at done n = next_same r rule.to at done n rule.nests b

  pub production_same : (x : Option Prod) → Fits g p x → (at : ℕ) (done : List ParseTree) (n : ℕ)
      → of_production g ks one level x at done n ≡ of_production g ks other level x at done n
  production_same None b at done n = refl
  production_same (Some (Tok k)) b at done n = refl
  production_same (Some (Call r)) b at done n = rule_same r (rule_at g r) b at done n
  production_same (Some (Seq ps)) b at done n = turn_same ps b at done n
  production_same (Some (Case bs o)) b at done n = chosen_same (branch_of ks at bs o) (branch_below g ks p at bs o b) at done n
  production_same (Some (Star firsts q)) b at done n = ap (λ (f : Reading). again ks firsts f (suc (length ks - at)) at done n) (one_same q b.0)

module _ (g : Table) (fit : IsFit g) (ks : List ℕ) where
  pub agree : (h k p level : ℕ) → p < length g.prods → height g p level < h → height g p level < k → answer g ks h p level ≡ answer g ks k p level
  agree zero k p level inside a b = absurd (omega arith)
  agree (suc h) zero p level inside a b = absurd (omega arith)
  agree (suc h) (suc k) p level inside a b = λ i at done n.
      production_same g ks (λ q l from so_far m. answer g ks h q l from so_far m) (λ q l from so_far m. answer g ks k q l from so_far m) p level
      (λ q l in_q falls. agree h k q l in_q (omega arith) (omega arith)) (slice_get g.prods p) (fits_at g fit p inside) at done (suc n) i

  -- the recursion that no bound tells
  pub unroll : (p level at : ℕ) (done : List ParseTree) (n : ℕ) → p < length g.prods → whole g ks p level at done n ≡ of_production g ks (whole g ks) level
      (slice_get g.prods p) at done (suc n)
  unfolding whole
  unroll p level at done n inside =
      production_same g ks (λ q l from so_far m. answer g ks (most_open g) q l from so_far m) (λ q l from so_far m. answer g ks (suc
      (most_open g)) q l from so_far m) p level
      (λ q l in_q falls. agree (most_open g) (suc (most_open g)) q l in_q (height_low g q l) (omega (arith, height_low g q l))) (slice_get g.prods p)
      (fits_at g fit p inside) at done (suc n)
