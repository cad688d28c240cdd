use Rattle.std.proofs.Common.{◌≡◌, drop}
use Rattle.grammar_core.specs.Marks.{Grows, mark_all}
use Rattle.grammar_core.proofs.marks.mark_all.Given as goal

abbrev pub invariant-parts : goal.invariant-parts
invariant-parts l = record {
  set : mark_all l.seen.items (drop l.q-index l.ps) ≡ mark_all l.fn.seen.items l.ps;
  grows : Grows l.fn.seen.items l.seen.items l.grew;
}
