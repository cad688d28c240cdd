use Rattle.std.proofs.Common.{◌≡◌, length}
use Rattle.grammar_core.specs.Tables.{graph_of}
use Rattle.grammar_core.specs.Marks.{unmarked}
use Rattle.grammar_core.proofs.Marking.{Sound, Started}
use Rattle.grammar_core.proofs.marks.reach_from.Given as goal

abbrev pub invariant-rounds : goal.invariant-rounds
invariant-rounds l = record {
  long : length l.seen.items ≡ length (graph_of l.calls l.g);
  sound : Sound (graph_of l.calls l.g) l.p l.seen.items;
  started : Started (graph_of l.calls l.g) l.p l.seen.items;
}

abbrev pub decreases-rounds : goal.decreases-rounds
decreases-rounds l = unmarked l.seen.items
