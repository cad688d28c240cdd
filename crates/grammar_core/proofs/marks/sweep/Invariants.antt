use Rattle.std.proofs.Common.{◌≡◌, drop, map}
use Rattle.grammar_core.specs.Tables.{graph_of, next_prods}
use Rattle.grammar_core.specs.Marks.{Grows, sweep}
use Rattle.grammar_core.proofs.marks.sweep.Given as goal

abbrev pub invariant-rows : goal.invariant-rows
invariant-rows l = record {
  set : sweep l.seen.items l.i (map (λ x. next_prods l.calls l.g x) (drop l.i l.g.prods)) ≡ sweep l.fn.seen.items 0 (graph_of l.calls l.g);
  grows : Grows l.fn.seen.items l.seen.items l.grew;
}
