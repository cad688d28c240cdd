use Rattle.std.proofs.Common.{◌≡◌, take, length}
use Rattle.grammar_core.specs.Derives.{kinds}
use Rattle.use_session.proofs.shapes.are_of.Given as goal

abbrev pub invariant-tokens : goal.invariant-tokens
invariant-tokens l = (kinds (take l.i l.tokens) ≡ take l.i l.known) × (length l.known ≡ length l.tokens)
