use Rattle.grammar_core.proofs.Yield.{tree_leaves}
use Rattle.grammar_core.proofs.laws.leaves_are_tokens.Goals as goal

pub returns : goal.returns
returns c = tree_leaves
