-- What a production answers, computed: with the trees that were read before it, and with a count of the steps.
use Rattle.std.specs.Prelude.{ℕ, ◌+◌, ◌-◌, ◌*◌, if◌then◌else◌, nat_lt, List, [], ◌∷◌, ◌++◌, length, Option, Some, None, slice_get, zero, suc}
use Rattle.grammar_core.specs.declared.table.Table.{Table}
use Rattle.grammar_core.specs.declared.table.Rule.{Rule}
use Rattle.grammar_core.specs.declared.table.Prod.{Prod}
use Rattle.grammar_core.specs.declared.table.Prod.TheVariants.{Tok, Call, Seq, Case, Star}
use Rattle.grammar_core.specs.Tables.{rule_at}
use Rattle.grammar_core.specs.Trees.{ParseTree, leaf}
use Rattle.grammar_core.specs.Arena.{closed}
use Rattle.grammar_core.specs.Derives.{Outcome, next_is, begins, branch_of, max_level}

-- where it ended and the trees then, or where it stopped, each with the steps so far
pub data Answer : Type 0 where
  ends : ℕ → List ParseTree → ℕ → Answer
  stuck : ℕ → ℕ → Answer
  deep : ℕ → ℕ → Answer
  spent : ℕ → Answer

-- from a place, with the trees and the steps so far
abbrev pub Reading : Type 0
Reading = ℕ → List ParseTree → ℕ → Answer

-- goes on where it ended
abbrev pub then_at : Answer → Reading → Answer
then_at (ends to done n) next = next to done n
then_at (stuck at n) next = stuck at n
then_at (deep at n) next = deep at n
then_at (spent n) next = spent n

abbrev pub in_turn : (ℕ → Reading) → List ℕ → Reading
in_turn one [] at done n = ends at done n
in_turn one (p ∷ ps) at done n = then_at (one p at done n) (λ to more m. in_turn one ps to more m)

abbrev pub chosen : (ℕ → Reading) → Option ℕ → Reading
chosen one None at done n = stuck at n
chosen one (Some q) at done n = one q at done n

-- as often as the next token is of one of these kinds, and less than k times
abbrev pub again : List ℕ → List ℕ → Reading → ℕ → Reading
again ks firsts one zero at done n = spent n
again ks firsts one (suc k) at done n =
    if begins ks at firsts then then_at (one at done n) (λ to more m. again ks firsts one k to more (suc m)) else ends at done n

-- the trees from a place on below a rule
abbrev pub close : ℕ → List ParseTree → Answer → Answer
close r before (ends to done n) = ends to (closed r (length before) done) (suc n)
close r before (stuck at n) = stuck at n
close r before (deep at n) = deep at n
close r before (spent n) = spent n

abbrev pub of_rule : (ℕ → ℕ → Reading) → ℕ → ℕ → Option Rule → Reading
of_rule one r level None at done n = spent n
of_rule one r level (Some rule) at done n =
    if rule.nests then (if nat_lt level max_level then close r done (one rule.to (level + 1) at done n) else deep at n)
    else close r done (one rule.to level at done n)

-- One production, where `one` says what a production answers at a level.
abbrev pub of_production : Table → List ℕ → (ℕ → ℕ → Reading) → ℕ → Option Prod → Reading
of_production g ks one level None at done n = spent n
of_production g ks one level (Some (Tok k)) at done n = if next_is ks at k then ends (at + 1) (done ++ (leaf k at ∷ [])) n else stuck at n
of_production g ks one level (Some (Call r)) at done n = of_rule one r level (rule_at g r) at done n
of_production g ks one level (Some (Seq ps)) at done n = in_turn (λ q. one q level) ps at done n
of_production g ks one level (Some (Case bs other)) at done n = chosen (λ q. one q level) (branch_of ks at bs other) at done n
of_production g ks one level (Some (Star firsts q)) at done n = again ks firsts (one q level) (suc (length ks - at)) at done n

-- with at most h productions open
abbrev pub answer : Table → List ℕ → ℕ → ℕ → ℕ → Reading
answer g ks zero p level at done n = spent n
answer g ks (suc h) p level at done n = of_production g ks (λ q l from so_far m. answer g ks h q l from so_far m) level (slice_get g.prods p) at done (suc n)

-- more than the productions that can be open in a fit table
abbrev pub most_open : Table → ℕ
most_open g = suc max_level * (length g.prods + 1)

-- what a production of a fit table answers
unfoldable pub whole : Table → List ℕ → ℕ → ℕ → Reading
whole g ks p level at done n = answer g ks (suc (most_open g)) p level at done n

-- without the count
abbrev pub outcome_of : Answer → Option Outcome
outcome_of (ends to done n) = Some (Outcome.ends to done)
outcome_of (stuck at n) = Some (Outcome.stuck at)
outcome_of (deep at n) = Some (Outcome.deep at)
outcome_of (spent n) = None
