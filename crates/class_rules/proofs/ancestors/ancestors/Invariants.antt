use Rattle.class_rules.proofs.Upward.{IsSearched, top}
use Rattle.class_rules.proofs.ancestors.ancestors.Given as goal

abbrev pub invariant-classes : goal.invariant-classes
invariant-classes l = IsSearched l.parents l.fn.class l.todo.keys l.found.keys

abbrev pub decreases-classes : goal.decreases-classes
decreases-classes l = top l.todo.keys
