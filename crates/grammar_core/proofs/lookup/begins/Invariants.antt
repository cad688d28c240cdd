use Rattle.std.proofs.Common.{◌≡◌, drop}
use Rattle.grammar_core.specs.Derives.{begins, kinds}
use Rattle.grammar_core.proofs.lookup.begins.Given as goal

abbrev pub invariant-kinds : goal.invariant-kinds
invariant-kinds l = begins (kinds l.tokens) l.at (drop l.kind-index l.firsts) ≡ begins (kinds l.tokens) l.at l.firsts
