-- What is still to be done: a stack of tasks, the next one last. Only proofs use these words.
use Rattle.std.specs.Prelude.{◌≡◌, ℕ, ◌<◌, ◌≤◌, true, false, List, [], ◌∷◌, ◌++◌, length, map, suc, slice_get, Option, Some, None, option_to_list, Result, Ok, Err}
use Rattle.grammar_core.specs.declared.table.Table.{Table}
use Rattle.grammar_core.specs.declared.fault.ParseFault.{ParseFault}
use Rattle.grammar_core.specs.declared.fault.ParseFault.TheVariants.{Memory, Stuck, Deep}
use Rattle.grammar_core.specs.declared.machine.Done.{Done}
use Rattle.grammar_core.specs.declared.table.Prod.{Prod}
use Rattle.grammar_core.specs.declared.table.Prod.TheVariants.{Star}
use Rattle.grammar_core.specs.declared.repeated.Parts.{Parts}
use Rattle.grammar_core.specs.Repetitions.{is_star, repeated_parts}
use Rattle.grammar_core.specs.declared.machine.Position.{Position}
use Rattle.grammar_core.specs.declared.machine.Task.{Task}
use Rattle.grammar_core.specs.declared.machine.Task.TheVariants.{Read, Close, Repeat}
use Rattle.grammar_core.specs.declared.machine.Work.{Work}
use Rattle.grammar_core.specs.Trees.{ParseTree}
use Rattle.grammar_core.specs.Arena.{closed, read_trees}
use Rattle.grammar_core.specs.Derives.{Outcome, begins}
use Rattle.grammar_core.specs.Answers.{Answer, ends, stuck, deep, spent, Reading, then_at, of_production, whole, outcome_of}

abbrev pub steps_of : Answer → ℕ
steps_of (ends to done n) = n
steps_of (stuck at n) = n
steps_of (deep at n) = n
steps_of (spent n) = n

-- what a production answers at a position, which counts one step
abbrev pub answer_at : Table → List ℕ → Prod → Position → List ParseTree → Answer
answer_at g ks x here done = of_production g ks (whole g ks) here.level (Some x) here.at done 1

abbrev pub task : Table → List ℕ → Task → Reading
task g ks (Read p level) at done n = whole g ks p level at done n
task g ks (Close r start) at done n = Answer.ends at (closed r start done) (suc n)
task g ks (Repeat p level r start) at done n = then_at (whole g ks p level at done n) (λ to more m. Answer.ends to (closed r start more) (suc m))

abbrev pub tasks_from : Table → List ℕ → List Task → Reading → Reading
tasks_from g ks [] next at done n = next at done n
tasks_from g ks (t ∷ ts) next at done n = tasks_from g ks ts (λ to more m. then_at (task g ks t to more m) next) at done n

unfoldable pub tasks : Table → List ℕ → List Task → Reading
tasks g ks ts at done n = tasks_from g ks ts (λ to more m. Answer.ends to more m) at done n

abbrev pub reads : ℕ → List ℕ → List Task
reads level ps = map (λ p. Read p level) ps

-- the production of this number is a repetition
abbrev pub IsStar : Table → ℕ → Type 0
IsStar g p = is_star (slice_get g.prods p) ≡ true

-- it goes on no more at a place
abbrev pub Ends : Table → List ℕ → ℕ → ℕ → Type 0
Ends g ks p at = (firsts : List ℕ) (q : ℕ) → slice_get g.prods p ≡ Some (Star firsts q) → begins ks at firsts ≡ false

abbrev pub IsTask : Table → Task → Type 0
IsTask g (Read p level) = p < length g.prods
IsTask g (Close r start) = Unit {0}
IsTask g (Repeat p level r start) = IsStar g p

abbrev pub AreTasks : Table → List Task → Type 0
AreTasks g [] = Unit {0}
AreTasks g (t ∷ ts) = IsTask g t × AreTasks g ts

abbrev pub tasks_by_parts : Option Parts → ℕ → ℕ → ℕ → ℕ → List Task
tasks_by_parts None r to level start = Close r start ∷ (Read to level ∷ [])
tasks_by_parts (Some parts) r to level start = Repeat parts.repeated level r start ∷ (Read parts.first level ∷ [])

-- the tasks of a rule with this production, at a level inside it
abbrev pub rule_tasks : Table → ℕ → ℕ → ℕ → ℕ → List Task
rule_tasks g r to level start = tasks_by_parts (repeated_parts g to) r to level start

-- the tasks that are left, with the one that comes next
abbrev pub left : List Task → Option Task → List Task
left stack next = stack ++ option_to_list next

-- what the parser gave for this answer, with its trees; want of memory may always come
abbrev pub Meets : Result ℕ ParseFault → List ParseTree → Answer → Type 0
Meets (Ok to) trees a = outcome_of a ≡ Some (Outcome.ends to trees)
Meets (Err Memory) trees a = Unit {0}
Meets (Err (Stuck at)) trees a = outcome_of a ≡ Some (Outcome.stuck at)
Meets (Err (Deep at)) trees a = outcome_of a ≡ Some (Outcome.deep at)

-- one step or more were counted before these tasks, and with them it is this answer
pub record Counted (g : Table) (ks : List ℕ) (ts : List Task) (at : ℕ) (trees : List ParseTree) (a : Answer) : Type 0 where
  pub more : ℕ
  pub same : tasks g ks ts at trees (suc more) ≡ a

-- from some tasks others are left after some steps, with what was read so far as it was
pub record Reached (g : Table) (ks : List ℕ) (old new : List Task) (at : ℕ) (trees : List ParseTree) : Type 0 where
  pub more : ℕ
  pub same : tasks g ks new at trees more ≡ tasks g ks old at trees 0

-- a reading was begun over some tasks, and goes on with another production at the same place over others
pub record Begun (g : Table) (ks : List ℕ) (here next : Position) (old new : List Task) (trees : List ParseTree) : Type 0 where
  pub reached : Reached g ks (old ++ (Read here.prod here.level ∷ [])) (new ++ (Read next.prod next.level ∷ [])) here.at trees
  pub all : AreTasks g (new ++ (Read next.prod next.level ∷ []))
  pub at : next.at ≡ here.at

-- one step was done, which counts one or more, of a task that answers this
abbrev pub Stepped : Table → List ℕ → Result Done ParseFault → Work → Work → Answer → Type 0
Stepped g ks (Ok done) old new a =
    Counted g ks (left new.stack.items done.next) done.at (read_trees new.built) (then_at a (λ at so_far n. tasks g ks old.stack.items at so_far n))
    × AreTasks g (left new.stack.items done.next)
Stepped g ks (Err e) old new a = Meets (Err e) (read_trees new.built) a

-- rules were ended at a place: other tasks are left, with the same outcome in no more steps
pub record Ended (g : Table) (ks : List ℕ) (old new : List Task) (at : ℕ) (before after : List ParseTree) : Type 0 where
  pub same : outcome_of (tasks g ks new at after 0) ≡ outcome_of (tasks g ks old at before 0)
  pub steps : steps_of (tasks g ks new at after 0) ≤ steps_of (tasks g ks old at before 0)
  pub all : AreTasks g new
