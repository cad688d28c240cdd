use Rattle.std.proofs.Common.{◌≡◌, drop}
use Rattle.grammar_core.specs.Marks.{Grows, empty_sweep}
use Rattle.grammar_core.proofs.marks.empty_sweep.Given as goal

abbrev pub invariant-prods : goal.invariant-prods
invariant-prods l = record {
  set : empty_sweep l.rules l.seen.items l.i (drop l.i l.prods) ≡ empty_sweep l.rules l.fn.seen.items 0 l.prods;
  grows : Grows l.fn.seen.items l.seen.items l.grew;
}
