-- A reading counts on from the steps before it.
use Rattle.std.proofs.Common.{◌≡◌, ℕ, ◌+◌, ◌-◌, Bool, true, false, cond, nat_lt, List, [], ◌∷◌, length, Option, Some, None, slice_get, zero, suc, refl, ap, ◌∙◌, arith}
use Rattle.grammar_core.specs.declared.table.Table.{Table}
use Rattle.grammar_core.specs.declared.table.Rule.{Rule}
use Rattle.grammar_core.specs.declared.table.Prod.{Prod}
use Rattle.grammar_core.specs.declared.table.Prod.TheVariants.{Tok, Call, Seq, Case, Star}
use Rattle.grammar_core.specs.declared.machine.Task.{Task}
use Rattle.grammar_core.specs.declared.machine.Task.TheVariants.{Read, Close, Repeat}
use Rattle.grammar_core.specs.Tables.{rule_at}
use Rattle.grammar_core.specs.Trees.{ParseTree}
use Rattle.grammar_core.specs.Arena.{closed}
use Rattle.grammar_core.specs.Derives.{next_is, begins, branch_of, max_level}
use Rattle.grammar_core.specs.Answers.{Answer, Reading, then_at, in_turn, chosen, again, close, of_rule, of_production, answer, most_open, whole, outcome_of}
use Rattle.grammar_core.specs.Tasks.{task, tasks_from, tasks, steps_of}

-- one step later
abbrev pub later : Answer → Answer
later (Answer.ends to done n) = Answer.ends to done (suc n)
later (Answer.stuck at n) = Answer.stuck at (suc n)
later (Answer.deep at n) = Answer.deep at (suc n)
later (Answer.spent n) = Answer.spent (suc n)

pub steps_of-later : (a : Answer) → steps_of (later a) ≡ suc (steps_of a)
steps_of-later (Answer.ends to done n) = refl
steps_of-later (Answer.stuck at n) = refl
steps_of-later (Answer.deep at n) = refl
steps_of-later (Answer.spent n) = refl

pub outcome_of-later : (a : Answer) → outcome_of (later a) ≡ outcome_of a
outcome_of-later (Answer.ends to done n) = refl
outcome_of-later (Answer.stuck at n) = refl
outcome_of-later (Answer.deep at n) = refl
outcome_of-later (Answer.spent n) = refl

abbrev pub Shifts : Reading → Type 0
Shifts f = (at : ℕ) (done : List ParseTree) (n : ℕ) → f at done (suc n) ≡ later (f at done n)

then_later : (a : Answer) (next : Reading) → Shifts next → then_at (later a) next ≡ later (then_at a next)
then_later (Answer.ends to done n) next s = s to done n
then_later (Answer.stuck at n) next s = refl
then_later (Answer.deep at n) next s = refl
then_later (Answer.spent n) next s = refl

pub then_shifts : (f next : Reading) → Shifts f → Shifts next → Shifts (λ at done n. then_at (f at done n) next)
then_shifts f next h k at done n = ap (λ (a : Answer). then_at a next) (h at done n) ∙ then_later (f at done n) next k

cond_later : (b : Bool) (x y x' y' : Answer) → x ≡ later x' → y ≡ later y' → cond b x y ≡ later (cond b x' y')
cond_later true x y x' y' h k = h
cond_later false x y x' y' h k = k

close_later : (r : ℕ) (before : List ParseTree) (a : Answer) → close r before (later a) ≡ later (close r before a)
close_later r before (Answer.ends to done n) = refl
close_later r before (Answer.stuck at n) = refl
close_later r before (Answer.deep at n) = refl
close_later r before (Answer.spent n) = refl

close_shifts : (r : ℕ) (f : Reading) → Shifts f → Shifts (λ at done n. close r done (f at done n))
close_shifts r f h at done n = ap (λ (a : Answer). close r done a) (h at done n) ∙ close_later r done (f at done n)

turn_shifts : (one : ℕ → Reading) → ((q : ℕ) → Shifts (one q)) → (ps : List ℕ) → Shifts (in_turn one ps)
turn_shifts one h [] at done n = refl
turn_shifts one h (p ∷ ps) at done n = then_shifts (one p) (λ to more m. in_turn one ps to more m) (h p) (turn_shifts one h ps) at done n

chosen_shifts : (one : ℕ → Reading) → ((q : ℕ) → Shifts (one q)) → (o : Option ℕ) → Shifts (chosen one o)
chosen_shifts one h None at done n = refl
chosen_shifts one h (Some q) at done n = h q at done n

again_shifts : (ks firsts : List ℕ) (one : Reading) → Shifts one → (k : ℕ) → Shifts (again ks firsts one k)
again_shifts ks firsts one h zero at done n = refl
again_shifts ks firsts one h (suc k) at done n =
    cond_later (begins ks at firsts) _ _ _ _
    (then_shifts one (λ to more m. again ks firsts one k to more (suc m)) h (λ to more m. again_shifts ks firsts one h k to more (suc m)) at done n) refl

rule_shifts : (one : ℕ → ℕ → Reading) → ((q l : ℕ) → Shifts (one q l)) → (r level : ℕ) (o : Option Rule) → Shifts (of_rule one r level o)
rule_shifts one h r level None at done n = refl
rule_shifts one h r level (Some rule) at done n =
    cond_later rule.nests _ _ _ _
    (cond_later (nat_lt level max_level) _ _ _ _ (close_shifts r (one rule.to (level + 1)) (h rule.to (level + 1)) at done n) refl)
    (close_shifts r (one rule.to level) (h rule.to level) at done n)

pub production_shifts : (g : Table) (ks : List ℕ) (one : ℕ → ℕ → Reading) → ((q l : ℕ) → Shifts (one q l)) → (level : ℕ) (x : Option Prod)
    → Shifts (of_production g ks one level x)
production_shifts g ks one h level None at done n = refl
production_shifts g ks one h level (Some (Tok k)) at done n = cond_later (next_is ks at k) _ _ _ _ refl refl
production_shifts g ks one h level (Some (Call r)) at done n = rule_shifts one h r level (rule_at g r) at done n
production_shifts g ks one h level (Some (Seq ps)) at done n = turn_shifts (λ q. one q level) (λ q. h q level) ps at done n
production_shifts g ks one h level (Some (Case bs other)) at done n = chosen_shifts (λ q. one q level) (λ q. h q level) (branch_of ks at bs other) at done n
production_shifts g ks one h level (Some (Star firsts q)) at done n = again_shifts ks firsts (one q level) (h q level) (suc (length ks - at)) at done n

answer_shifts : (g : Table) (ks : List ℕ) (h p level : ℕ) → Shifts (answer g ks h p level)
answer_shifts g ks zero p level at done n = refl
answer_shifts g ks (suc h) p level at done n = production_shifts g ks (λ q l from so_far m. answer g ks h q l from so_far m) (answer_shifts g ks h) level
    (slice_get g.prods p) at done (suc n)

pub whole_shifts : (g : Table) (ks : List ℕ) (p level : ℕ) → Shifts (whole g ks p level)
unfolding whole
whole_shifts g ks p level at done n = answer_shifts g ks (suc (most_open g)) p level at done n

task_shifts : (g : Table) (ks : List ℕ) (t : Task) → Shifts (task g ks t)
task_shifts g ks (Read p level) at done n = whole_shifts g ks p level at done n
task_shifts g ks (Close r start) at done n = refl
task_shifts g ks (Repeat p level r start) at done n = then_shifts (whole g ks p level) (λ to more m. Answer.ends to (closed r start more) (suc m))
    (whole_shifts g ks p level) (λ to more m. refl) at done n

from_shifts : (g : Table) (ks : List ℕ) (ts : List Task) (next : Reading) → Shifts next → Shifts (tasks_from g ks ts next)
from_shifts g ks [] next h at done n = h at done n
from_shifts g ks (t ∷ ts) next h at done n = from_shifts g ks ts (λ to more m. then_at (task g ks t to more m) next) (then_shifts (task g ks t) next
    (task_shifts g ks t) h) at done n

pub tasks_shift : (g : Table) (ks : List ℕ) (ts : List Task) → Shifts (tasks g ks ts)
unfolding tasks
tasks_shift g ks ts at done n = from_shifts g ks ts (λ to more m. Answer.ends to more m) (λ to more m. refl) at done n

-- the steps that were counted before
pub outcome_of-counted : (g : Table) (ks : List ℕ) (ts : List Task) (at : ℕ) (done : List ParseTree) (n : ℕ)
    → outcome_of (tasks g ks ts at done n) ≡ outcome_of (tasks g ks ts at done 0)
outcome_of-counted g ks ts at done zero = refl
outcome_of-counted g ks ts at done (suc n) = ap (λ (a : Answer). outcome_of a) (tasks_shift g ks ts at done n) ∙ outcome_of-later (tasks g ks ts at done n)
    ∙ outcome_of-counted g ks ts at done n

pub steps_of-counted : (g : Table) (ks : List ℕ) (ts : List Task) (at : ℕ) (done : List ParseTree) (n : ℕ)
    → steps_of (tasks g ks ts at done n) ≡ n + steps_of (tasks g ks ts at done 0)
steps_of-counted g ks ts at done zero = omega arith
steps_of-counted g ks ts at done (suc n) =
    let one : steps_of (tasks g ks ts at done (suc n)) ≡ suc (steps_of (tasks g ks ts at done n)) = ap (λ (a : Answer). steps_of a)
    (tasks_shift g ks ts at done n) ∙ steps_of-later (tasks g ks ts at done n) in
    omega (arith, one, steps_of-counted g ks ts at done n)
