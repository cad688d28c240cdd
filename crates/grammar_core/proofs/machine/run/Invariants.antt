use Rattle.std.proofs.Common.{◌≡◌, [], None, Some}
use Rattle.grammar_core.specs.declared.table.Prod.TheVariants.{Call}
use Rattle.grammar_core.specs.Arena.{read_trees}
use Rattle.grammar_core.specs.Derives.{kinds}
use Rattle.grammar_core.specs.Answers.{of_production, whole, outcome_of}
use Rattle.grammar_core.specs.Tasks.{tasks, left, AreTasks, steps_of}
use Rattle.grammar_core.proofs.machine.run.Given as goal

abbrev pub invariant-steps : goal.invariant-steps
invariant-steps l = record {
  same : outcome_of (tasks l.g (kinds l.tokens) (left l.work.stack.items l.next) l.at (read_trees l.work.built) 0) ≡ outcome_of (of_production l.g
      (kinds l.tokens) (whole l.g (kinds l.tokens)) 0 (Some (Call l.start)) 0 [] 0);
  all : AreTasks l.g (left l.work.stack.items l.next);
  last : l.next ≡ None → l.work.stack.items ≡ [];
}

-- the steps that are still to come
abbrev pub decreases-steps : goal.decreases-steps
decreases-steps l = steps_of (tasks l.g (kinds l.tokens) (left l.work.stack.items l.next) l.at (read_trees l.work.built) 0)
