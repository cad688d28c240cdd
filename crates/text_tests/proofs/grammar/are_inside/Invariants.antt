use Rattle.std.proofs.Common.{◌≡◌, drop}
use Rattle.grammar_core.specs.Unfit.{all_inside}
use Rattle.text_tests.proofs.grammar.are_inside.Given as goal

abbrev pub invariant-rules : goal.invariant-rules
invariant-rules l = all_inside l.count (drop l.q-index l.rules) ≡ all_inside l.count l.rules
