use Rattle.std.proofs.Common.{◌≡◌, take}
use Rattle.grammar_core.specs.Derives.{kinds}
use Rattle.use_session.proofs.shapes.kinds_of.Given as goal

abbrev pub invariant-tokens : goal.invariant-tokens
invariant-tokens l = l.found.items ≡ kinds (take l.token-index l.tokens)
