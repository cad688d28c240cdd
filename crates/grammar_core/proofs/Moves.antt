-- A production ends no earlier than it begins, and later unless it may derive no token.
use Rattle.std.proofs.Common.{◌≡◌, ℕ, ◌+◌, ◌-◌, ◌<◌, ◌≤◌, Bool, true, false, cond, nat_lt, List, [], ◌∷◌, ◌++◌, length, Option, Some, None, slice_get, zero, suc, refl, arith, inl, inr, ⊎_elim, ◌⊎◌}
use Rattle.grammar_core.specs.declared.table.Table.{Table}
use Rattle.grammar_core.specs.declared.table.Branch.{Branch}
use Rattle.grammar_core.specs.declared.table.Rule.{Rule}
use Rattle.grammar_core.specs.declared.table.Prod.{Prod}
use Rattle.grammar_core.specs.declared.table.Prod.TheVariants.{Tok, Call, Seq, Case, Star}
use Rattle.grammar_core.specs.Tables.{rule_at}
use Rattle.grammar_core.specs.Trees.{ParseTree, leaf}
use Rattle.grammar_core.specs.Empty.{MayBeEmpty, IsEmptyProd, AllMayBeEmpty}
use Rattle.grammar_core.specs.Derives.{next_is, begins, branch_of, max_level}
use Rattle.grammar_core.specs.Answers.{Answer, Reading, then_at, in_turn, chosen, again, close, of_rule, of_production, answer, most_open, whole}
use Rattle.grammar_core.proofs.Fits.{branch_in, rule_at-to}

pub record Moved (E : Type 0) (at to : ℕ) : Type 0 where
  pub goes : at ≤ to
  pub on : (at < to) ⊎ E

-- the same, where an answer ends
abbrev pub MovedBy : Type 0 → ℕ → Answer → Type 0
MovedBy E at (Answer.ends to done n) = Moved E at to
MovedBy E at (Answer.stuck x n) = Unit {0}
MovedBy E at (Answer.deep x n) = Unit {0}
MovedBy E at (Answer.spent n) = Unit {0}

moved_then : (E F G : Type 0) (at to x : ℕ) → (E → F → G) → Moved E at to → Moved F to x → Moved G at x
moved_then E F G at to x both m n = record {
  goes = omega (arith, m.goes, n.goes);
  on = ⊎_elim (λ l. inl (omega (arith, l, n.goes))) (λ e. ⊎_elim (λ l. inl
      (omega (arith, l, m.goes))) (λ f. inr (both e f)) n.on) m.on;
}

then_moved : (E F G : Type 0) (at : ℕ) (a : Answer) (next : Reading) → (E → F → G) → MovedBy E at a → ((to : ℕ) (more : List ParseTree) (n : ℕ)
    → MovedBy F to (next to more n)) → MovedBy G at (then_at a next)
then_moved E F G at (Answer.ends to done n) next both m h = further (next to done n) (h to done n)
  where
    further : (b : Answer) → MovedBy F to b → MovedBy G at b
    further (Answer.ends x more k) l = moved_then E F G at to x both m l
    further (Answer.stuck x k) l = tt
    further (Answer.deep x k) l = tt
    further (Answer.spent k) l = tt
then_moved E F G at (Answer.stuck x n) next both m h = tt
then_moved E F G at (Answer.deep x n) next both m h = tt
then_moved E F G at (Answer.spent n) next both m h = tt

weaker : (E F : Type 0) (at : ℕ) (a : Answer) → (E → F) → MovedBy E at a → MovedBy F at a
weaker E F at (Answer.ends to done n) h m = record { goes = m.goes; on = ⊎_elim (λ l. inl l) (λ e. inr (h e)) m.on }
weaker E F at (Answer.stuck x n) h m = tt
weaker E F at (Answer.deep x n) h m = tt
weaker E F at (Answer.spent n) h m = tt

close_moved : (E : Type 0) (at r : ℕ) (before : List ParseTree) (a : Answer) → MovedBy E at a → MovedBy E at (close r before a)
close_moved E at r before (Answer.ends to done n) m = m
close_moved E at r before (Answer.stuck x n) m = tt
close_moved E at r before (Answer.deep x n) m = tt
close_moved E at r before (Answer.spent n) m = tt

module _ (g : Table) (ks : List ℕ) (one : ℕ → ℕ → Reading) (level : ℕ) (moves : (q l at : ℕ) (done : List ParseTree) (n : ℕ)
    → MovedBy (MayBeEmpty g q) at (one q l at done n)) where
  turn_moved : (ps : List ℕ) (at : ℕ) (done : List ParseTree) (n : ℕ) → MovedBy (AllMayBeEmpty g ps) at (in_turn (λ q. one q level) ps at done n)
  turn_moved [] at done n = record { goes = omega arith; on = inr AllMayBeEmpty.none }
  turn_moved (p ∷ ps) at done n = then_moved (MayBeEmpty g p) (AllMayBeEmpty g ps) (AllMayBeEmpty g (p
      ∷ ps)) at (one p level at done n) (λ to more m. in_turn (λ q. one q level) ps to more m) (λ e f. AllMayBeEmpty.and p ps e f) (moves p level at done n)
      (turn_moved ps)

  chosen_moved : (bs : List Branch) (other o : Option ℕ) (at : ℕ) (done : List ParseTree) (n : ℕ) → branch_of ks at bs other ≡ o
      → MovedBy (IsEmptyProd g (Case bs other)) at (chosen (λ q. one q level) o at done n)
  chosen_moved bs other None at done n e = tt
  chosen_moved bs other (Some q) at done n e = weaker (MayBeEmpty g q) (IsEmptyProd g (Case bs other)) at (one q level at done n)
      (λ m. IsEmptyProd.branch bs other q (branch_in ks at q bs other e) m) (moves q level at done n)

  again_moved : (firsts : List ℕ) (q k at : ℕ) (done : List ParseTree) (n : ℕ) → MovedBy (IsEmptyProd g (Star firsts q)) at (again ks firsts
      (one q level) k at done n)
  again_moved firsts q zero at done n = tt
  again_moved firsts q (suc k) at done n = elim (begins ks at firsts) as (λ v. MovedBy (IsEmptyProd g (Star firsts q)) at (cond v (then_at
      (one q level at done n) (λ to more m. again ks firsts (one q level) k to more (suc m))) (Answer.ends at done n))) [
        | true ↦ then_moved (MayBeEmpty g q) (IsEmptyProd g (Star firsts q)) (IsEmptyProd g (Star firsts q)) at (one q level at done n)
            (λ to more m. again ks firsts (one q level) k to more (suc m)) (λ e f. f) (moves q level at done n) (λ to more m. again_moved firsts q k to more
            (suc m))
        | false ↦ record { goes = omega arith; on = inr (IsEmptyProd.no_times firsts q) }
      ]

  rule_moved : (r : ℕ) (o : Option Rule) (at : ℕ) (done : List ParseTree) (n : ℕ) → rule_at g r ≡ o
      → MovedBy (IsEmptyProd g (Call r)) at (of_rule one r level o at done n)
  rule_moved r None at done n e = tt
  rule_moved r (Some rule) at done n e = by_nests rule.nests (nat_lt level max_level)
    where
      called : (l : ℕ) → MovedBy (IsEmptyProd g (Call r)) at (close r done (one rule.to l at done n))
      called l = close_moved (IsEmptyProd g (Call r)) at r done (one rule.to l at done n) (weaker (MayBeEmpty g rule.to) (IsEmptyProd g (Call r)) at
          (one rule.to l at done n) (λ m. IsEmptyProd.call r rule.to (rule_at-to g r rule e) m) (moves rule.to l at done n))

      by_nests : (b v : Bool) → MovedBy (IsEmptyProd g (Call r)) at (cond b (cond v (close r done (one rule.to (level + 1) at done n)) (Answer.deep at n))
          (close r done (one rule.to level at done n)))
      by_nests true true = called (level + 1)
      by_nests true false = tt
      by_nests false v = called level

  pub production_moved : (x : Prod) (at : ℕ) (done : List ParseTree) (n : ℕ) → MovedBy (IsEmptyProd g x) at (of_production g ks one level (Some x) at done n)
  production_moved (Tok k) at done n = elim (next_is ks at k) as (λ v. MovedBy (IsEmptyProd g (Tok k)) at (cond v (Answer.ends (at + 1) (done ++ (leaf k at
      ∷ [])) n) (Answer.stuck at n))) [ true ↦ record { goes = omega arith; on = inl (omega arith) } | false ↦ tt ]
  production_moved (Call r) at done n = rule_moved r (rule_at g r) at done n refl
  production_moved (Seq ps) at done n = weaker (AllMayBeEmpty g ps) (IsEmptyProd g (Seq ps)) at (in_turn (λ q. one q level) ps at done n)
      (λ e. IsEmptyProd.all ps e) (turn_moved ps at done n)
  production_moved (Case bs other) at done n = chosen_moved bs other (branch_of ks at bs other) at done n refl
  production_moved (Star firsts q) at done n = again_moved firsts q (suc (length ks - at)) at done n

module _ (g : Table) (ks : List ℕ) where
  pub moved : (h p level at : ℕ) (done : List ParseTree) (n : ℕ) → MovedBy (MayBeEmpty g p) at (answer g ks h p level at done n)
  moved zero p level at done n = tt
  moved (suc h) p level at done n = by_place (moved h) (slice_get g.prods p) refl
    where
      by_place : ((q l from : ℕ) (so_far : List ParseTree) (m : ℕ) → MovedBy (MayBeEmpty g q) from (answer g ks h q l from so_far m)) → (o : Option Prod)
          → slice_get g.prods p ≡ o → MovedBy (MayBeEmpty g p) at (of_production g ks (λ q l from so_far m. answer g ks h q l from so_far m) level o at done
          (suc n))
      by_place moves None e = tt
      by_place moves (Some x) e = weaker (IsEmptyProd g x) (MayBeEmpty g p) at (of_production g ks (λ q l from so_far m. answer g ks h q l from so_far m) level
          (Some x) at done (suc n)) (λ m. MayBeEmpty.production p x e m) (production_moved g ks (λ q l from so_far m. answer g ks h q l from so_far m) level
          moves x at done (suc n))

  pub whole_moved : (p level at : ℕ) (done : List ParseTree) (n : ℕ) → MovedBy (MayBeEmpty g p) at (whole g ks p level at done n)
  unfolding whole
  whole_moved p level at done n = moved (suc (most_open g)) p level at done n
