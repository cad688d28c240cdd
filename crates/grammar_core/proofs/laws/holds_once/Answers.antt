use Rattle.grammar_core.proofs.Verdicts.{holds_one}
use Rattle.grammar_core.proofs.laws.holds_once.Goals as goal

pub returns : goal.returns
returns c = λ g ks r fit inside. holds_one g ks fit r inside
