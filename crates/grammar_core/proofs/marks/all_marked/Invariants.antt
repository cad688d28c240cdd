use Rattle.std.proofs.Common.{◌≡◌, drop}
use Rattle.grammar_core.specs.Empty.{all_marked}
use Rattle.grammar_core.proofs.marks.all_marked.Given as goal

abbrev pub invariant-parts : goal.invariant-parts
invariant-parts l = all_marked l.seen (drop l.q-index l.ps) ≡ all_marked l.seen l.ps
