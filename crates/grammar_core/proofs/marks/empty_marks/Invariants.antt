use Rattle.std.proofs.Common.{◌≡◌, length}
use Rattle.grammar_core.specs.Marks.{unmarked}
use Rattle.grammar_core.proofs.Emptiness.{Sound}
use Rattle.grammar_core.proofs.marks.empty_marks.Given as goal

abbrev pub invariant-rounds : goal.invariant-rounds
invariant-rounds l = record {
  long : length l.seen.items ≡ length l.g.prods;
  sound : Sound l.g l.seen.items;
}

abbrev pub decreases-rounds : goal.decreases-rounds
decreases-rounds l = unmarked l.seen.items
